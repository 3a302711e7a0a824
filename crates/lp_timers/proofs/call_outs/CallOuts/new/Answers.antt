use Rattle.std.proofs.Common.{◌<◌, ap, sym, subst, ◌∙◌}
use Rattle.std.specs.List.{AllByRecursion}
use Rattle.lp_timers.specs.Indexed.{at_all, at_object, at_function, kept_at, passes}
use Rattle.lp_timers.proofs.call_outs.CallOuts.new.Goals as goal

pub invariant_of-result : goal.invariant_of-result
invariant_of-result c = record {
  all = λ s. c.new-2.ensures.all s ∙ ap (λ es. passes (at_all s) (kept_at es s.number)) (sym c.new.ensures.empty);
  objects = λ s. c.new-2.ensures.objects s ∙ ap (λ es. passes (at_object s) (kept_at es s.number)) (sym c.new.ensures.empty);
  functions = λ f s. c.new-2.ensures.functions f s ∙ ap (λ es. passes (at_function f s) (kept_at es s.number)) (sym c.new.ensures.empty);
  below = subst (AllByRecursion (λ e. e.0 < 1)) (sym c.new.ensures.empty) tt;
  rising = c.new.ensures.ordered;
}
