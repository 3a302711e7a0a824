use Rattle.std.proofs.Common.{subst, ◌+◌}
use Rattle.lp_step.specs.declared.worked.Worked.TheVariants as worked
use Rattle.lp_step.specs.Works.{IsWorkedThere, SteppedOn}
use Rattle.lp_step.proofs.Counted.{counted}
use Rattle.lp_step.proofs.Fits.{popped_fit, pushed_fit}
use Rattle.lp_step.proofs.Led.{value, error, spent}
use Rattle.lp_step.proofs.counting.on_value.Goals as goal

pub returns-in_ok-push-in-Value : goal.returns-in_ok-push-in-Value
returns-in_ok-push-in-Value c = record {
  table = λ a m h fine named.
      counted a c.args.live.now c.args.stack.now.items c.count_top.new.stack.items c.push.new.stack.items c.args.frame.now (c.args.frame.now.at + 1) c.args.budget.now c.count_top.new.budget m c.args.step (worked.Value c.in-Value.v) _ h
      (subst (λ d. SteppedOn c.args.step c.args.stack.now.items c.count_top.new.stack.items c.args.live.now.objects c.args.live.now.cells c.args.budget.now d c.count_top.new.budget) c.in-Value.is c.in_ok-d.ensures.works) (value c.in_ok-push-in-Value.ensures) fine;
  keeps = λ f. let t = c.in_ok-d.ensures.works in (pushed_fit c.args.live.now _ _ _ (subst (IsWorkedThere c.args.live.now.cells) c.in-Value.is c.in_ok-d.ensures.there) c.in_ok-push-in-Value.ensures (popped_fit c.args.live.now _ _ t.0 t.1 f).0, tt);
}

pub returns-in-Error : goal.returns-in-Error
returns-in-Error c = record {
  table = λ a m h fine named.
      counted a c.args.live.now c.args.stack.now.items c.count_top.new.stack.items c.count_top.new.stack.items c.args.frame.now c.args.frame.now.at c.args.budget.now c.count_top.new.budget m c.args.step (worked.Error c.in-Error.e) _ h
      (subst (λ d. SteppedOn c.args.step c.args.stack.now.items c.count_top.new.stack.items c.args.live.now.objects c.args.live.now.cells c.args.budget.now d c.count_top.new.budget) c.in-Error.is c.in_ok-d.ensures.works) error fine;
  keeps = λ f. let t = c.in_ok-d.ensures.works in ((popped_fit c.args.live.now _ _ t.0 t.1 f).0, tt);
}

pub returns-in-Spent : goal.returns-in-Spent
returns-in-Spent c = record {
  table = λ a m h fine named.
      counted a c.args.live.now c.args.stack.now.items c.count_top.new.stack.items c.count_top.new.stack.items c.args.frame.now c.args.frame.now.at c.args.budget.now c.count_top.new.budget m c.args.step worked.Spent _ h
      (subst (λ d. SteppedOn c.args.step c.args.stack.now.items c.count_top.new.stack.items c.args.live.now.objects c.args.live.now.cells c.args.budget.now d c.count_top.new.budget) c.in-Spent.is c.in_ok-d.ensures.works) spent fine;
  keeps = λ f. let t = c.in_ok-d.ensures.works in ((popped_fit c.args.live.now _ _ t.0 t.1 f).0, tt);
}
