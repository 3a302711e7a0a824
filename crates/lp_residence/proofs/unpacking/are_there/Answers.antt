use Rattle.std.proofs.Common.{All, rules, subst}
use Rattle.std.proofs.lemmas.List.{take_all}
use Rattle.std.proofs.lemmas.List.Elements.{All-more}
use Rattle.lp_cells.specs.Cells.{IsThere}
use Rattle.lp_residence.proofs.unpacking.are_there.Goals as goal

pub loop-v-preserved : goal.loop-v-preserved
loop-v-preserved c =
    let here : IsThere c.args.cells.now c.v-item.result = search (rules, c.is_there.ensures, c.if-not-is_there.false, c.if-not-is_there.ensures) in
    All-more (IsThere c.args.cells.now) c.args.values.now c.loop-v.v-index c.v-item.result c.loop-v-test.true c.loop-v.invariant (subst (IsThere c.args.cells.now) c.v-item.is here)

pub returns : goal.returns
returns c = subst (All (IsThere c.args.cells.now)) (take_all c.loop-v.v-index c.args.values.now c.loop-v-test.false) c.loop-v.invariant
