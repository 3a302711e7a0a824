use Rattle.std.proofs.Common.{rules, sym, ◌∙◌}
use Rattle.lp_types_expr.specs.Scopes.{visible}
use Rattle.lp_types_expr.specs.Surroundings.{around_of}
use Rattle.lp_types_expr.proofs.Misfits.{closing, found, read_any}
use Rattle.lp_types_expr.proofs.call.misfits.Goals as goal

pub returns-then-i-args : goal.returns-then-i-args
returns-then-i-args c = sym (c.loop-i.invariant ∙ closing (around_of c.args.around.now) (visible c.args.scopes.now) c.args.line c.args.params.now c.args.args.now c.loop-i.i c.loop-i.faults.items c.if-i-args.true)

pub loop-i-preserved : goal.loop-i-preserved
loop-i-preserved c = found (around_of c.args.around.now) (visible c.args.scopes.now) c.args.line c.args.params.now c.args.args.now c.loop-i.i _ c.loop-i.faults.items c.add_when.new.faults.items _ c.index-args-i.result c.type_of.result c.fits-is_fault.result c.loop-i-test.true (search rules) c.index-args-i.is c.type_of.ensures c.fits-is_fault.ensures (read_any c.args.params.now c.loop-i.i _ _ c.loop-i-test.true) c.in_ok-add_when.ensures c.loop-i.invariant
