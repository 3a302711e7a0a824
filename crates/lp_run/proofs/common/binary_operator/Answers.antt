use Rattle.std.proofs.Common.{◌+◌, refl}
use Rattle.lp_step.proofs.Led.{value}
use Rattle.lp_step.proofs.Operated.{operated}
use Rattle.lp_step.proofs.Placed.{placed_fit}
use Rattle.lp_step.specs.declared.worked.Worked.TheVariants as worked
use Rattle.lp_values.specs.declared.value.Value.TheVariants.{Int}
use Rattle.lp_run.specs.Takes.{at_place}
use Rattle.lp_run.proofs.common.binary_operator.Goals as goal

pub returns-then-is_done : goal.returns-then-is_done
returns-then-is_done c =
    let t = c.if-is_done.ensures in
    let w = t.3 c.args.live.now.objects c.args.live.now.cells in
    record {
      table = λ a m h fine named.
          operated a c.args.live.now c.args.live.now.cells c.args.stack.now.items t.0 c.binary_in_place-is_done.new.stack.items (at_place c.args.frame.now c.args.at.now) (c.args.at.now + 1) c.args.left.now c.binary_in_place-is_done.new.budget m c.args.op (worked.Value (Int t.1)) _ h
          w (value t.2) fine;
      keeps = λ f. (placed_fit c.args.live.now c.args.stack.now.items t.0 c.binary_in_place-is_done.new.stack.items w.0 w.1 t.1 w.2 t.2 f, tt);
    }

pub returns : goal.returns
returns c = (c.if-is_done.ensures.0, refl, c.if-is_done.ensures.1)
