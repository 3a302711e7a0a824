use Rattle.std.proofs.Common.{◌≡◌, ◌<◌, Some, map, nat_eq, ap, sym, subst, ◌∙◌}
use Rattle.std.specs.Cmp.Lexicographic.{pointwise}
use Rattle.std.specs.List.{AllByRecursion}
use Rattle.std.specs.Option.{option_map}
use Rattle.lp_timers.specs.Indexed.{at_all, at_object, at_function, kept_at, passes}
use Rattle.lp_timers.specs.Waiting.{call_from, entry_call, numbered}
use Rattle.lp_timers.proofs.KeptLemmas.{all_removed, at_number, found_numbered, hits_all, hits_function, hits_object, taken_out, took_out}
use Rattle.lp_timers.proofs.call_outs.CallOuts.take_call.Goals as goal

pub invariant_of-self : goal.invariant_of-self
invariant_of-self c =
    let n = c.args.number in
    let es = c.self.inside.calls.entries in
    let call = c.in-Some.call in
    let o = call.ob.0 in
    let d = call.due in
    let kept : kept_at es n ≡ Some call = sym c.in-Some.ensures.value in
    let out = c.remove-in-Some.ensures in
    record {
      all = λ s. took_out (at_all s) _ _ _ call _ (kept_at es s.number) (c.self.invariant.all s) (out.all s) (hits_all o d n s) (at_number es n s.number (Some call) kept)
          ∙ ap (passes (at_all s)) (sym (c.remove.ensures.updates.0 s.number));
      objects = λ s. took_out (at_object s) _ _ _ call _ (kept_at es s.number) (c.self.invariant.objects s) (out.objects s) (hits_object o d n s) (at_number es n s.number (Some call) kept)
          ∙ ap (passes (at_object s)) (sym (c.remove.ensures.updates.0 s.number));
      functions = λ f s. took_out (at_function f s) _ _ _ call _ (kept_at es s.number) (c.self.invariant.functions f s) (out.functions f s) (hits_function (pointwise nat_eq call.fun f) o d n s) (at_number es n s.number (Some call) kept)
          ∙ ap (passes (at_function f s)) (sym (c.remove.ensures.updates.0 s.number));
      below = subst (AllByRecursion (λ e. e.0 < c.self.inside.next)) (sym c.remove.ensures.entries) (all_removed es n c.self.inside.next c.self.invariant.below);
      rising = c.remove.ensures.ordered;
    }

pub returns-in-Some-clause-taken : goal.returns-in-Some-clause-taken
returns-in-Some-clause-taken c =
    ap (option_map (call_from c.args.number)) c.in-Some.ensures.value ∙ found_numbered c.self.inside.calls.entries c.args.number ∙ ap (λ w. numbered w.call_outs c.args.number) c.self.view_is

pub returns-in-Some-clause-left : goal.returns-in-Some-clause-left
returns-in-Some-clause-left c =
    rw (← c.self.view_is) (ap (λ l. record { next = c.self.inside.next; call_outs = l }) (ap (map entry_call) c.remove.ensures.entries ∙ taken_out c.self.inside.calls.entries c.args.number c.self.invariant.rising))

pub returns-in-None-clause-taken : goal.returns-in-None-clause-taken
returns-in-None-clause-taken c =
    ap (option_map (call_from c.args.number)) c.in-None.ensures.value ∙ found_numbered c.self.inside.calls.entries c.args.number ∙ ap (λ w. numbered w.call_outs c.args.number) c.self.view_is

pub returns-in-None-clause-left : goal.returns-in-None-clause-left
returns-in-None-clause-left c =
    rw (← c.self.view_is) (ap (λ l. record { next = c.self.inside.next; call_outs = l }) (ap (map entry_call) c.remove.ensures.entries ∙ taken_out c.self.inside.calls.entries c.args.number c.self.invariant.rising))
