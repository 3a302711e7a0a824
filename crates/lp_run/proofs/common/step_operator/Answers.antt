use Rattle.std.proofs.Common.{◌+◌, refl}
use Rattle.lp_step.proofs.Counted.{counted}
use Rattle.lp_step.proofs.Fits.{popped_fit, pushed_fit}
use Rattle.lp_step.proofs.Led.{value}
use Rattle.lp_step.specs.declared.worked.Worked.TheVariants as worked
use Rattle.lp_values.specs.declared.value.Value.TheVariants.{Int}
use Rattle.lp_run.specs.Takes.{at_place}
use Rattle.lp_run.proofs.common.step_operator.Goals as goal

pub returns-then-is_done : goal.returns-then-is_done
returns-then-is_done c =
    let t = c.if-is_done.ensures in
    let w = t.3 c.args.live.now.objects c.args.live.now.cells in
    record {
      table = λ a m h fine named.
          counted a c.args.live.now c.args.stack.now.items t.0 c.count_in_place-is_done.new.stack.items (at_place c.args.frame.now c.args.at.now) (c.args.at.now + 1) c.args.left.now c.count_in_place-is_done.new.budget m c.args.step (worked.Value (Int t.1)) _ h
          w (value t.2) fine;
      keeps = λ f. (pushed_fit c.args.live.now t.0 _ (Int t.1) tt t.2 (popped_fit c.args.live.now _ t.0 w.0 w.1 f).0, tt);
    }

pub returns : goal.returns
returns c = (c.if-is_done.ensures.0, refl, c.if-is_done.ensures.1)
