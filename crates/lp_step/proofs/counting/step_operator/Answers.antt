use Rattle.std.proofs.Common.{◌+◌}
use Rattle.lp_step.proofs.Counted.{counted}
use Rattle.lp_step.proofs.Fits.{popped_fit, pushed_fit}
use Rattle.lp_step.proofs.Led.{value}
use Rattle.lp_step.specs.declared.worked.Worked.TheVariants as worked
use Rattle.lp_values.specs.declared.value.Value.TheVariants.{Int}
use Rattle.lp_step.proofs.counting.step_operator.Goals as goal

pub returns-then-is_done-clause-table : goal.returns-then-is_done-clause-table
returns-then-is_done-clause-table c a m h fine named =
    let t = c.if-is_done.ensures in
    counted a c.args.live.now c.args.stack.now.items t.0 c.count_in_place-is_done.new.stack.items c.args.frame.now (c.args.frame.now.at + 1) c.args.budget.now c.count_in_place-is_done.new.budget m c.args.step (worked.Value (Int t.1)) _ h
    (t.3 c.args.live.now.objects c.args.live.now.cells) (value t.2) fine

pub returns-then-is_done-clause-keeps : goal.returns-then-is_done-clause-keeps
returns-then-is_done-clause-keeps c f =
    let t = c.if-is_done.ensures in
    let w = t.3 c.args.live.now.objects c.args.live.now.cells in
    (pushed_fit c.args.live.now t.0 _ (Int t.1) tt t.2 (popped_fit c.args.live.now _ t.0 w.0 w.1 f).0, tt)
