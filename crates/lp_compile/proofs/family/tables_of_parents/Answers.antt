use Rattle.std.proofs.Common.{◌∙◌, ap, sym}
use Rattle.lp_compile.proofs.Given.{ends, goes_on}
use Rattle.lp_compile.proofs.family.tables_of_parents.Goals as goal

pub loop-parent-preserved : goal.loop-parent-preserved
loop-parent-preserved g c =
    goes_on (g.L.Loaded.known c.args.loaded.now) c.args.parents.now c.loop-parent.parent-index c.parent-item.result c.loop-parent.all.items c.push.new.self.items c.in_ok-tables.tables c.loop-parent-test.true c.parent-item.is c.loop-parent.invariant
    (ap (g.L.Loaded.known c.args.loaded.now) (sym c.as_str.ensures) ∙ c.in_ok-tables.ensures.known) c.in_ok-tables.ensures.inside c.in_ok-tables.ensures.of c.in_ok-push.ensures.items

pub returns-clause-known : goal.returns-clause-known
returns-clause-known g c =
    ends (g.L.Loaded.known c.args.loaded.now) c.args.parents.now c.loop-parent.parent-index c.loop-parent.all.items c.loop-parent-test.false c.loop-parent.invariant
