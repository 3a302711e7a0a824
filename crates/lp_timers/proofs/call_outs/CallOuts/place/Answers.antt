use Rattle.std.proofs.Common.{ℕ, ◌+◌, ◌<◌, ◌∷◌, ◌++◌, [], List, None, map, nat_eq, ◌&&◌, refl, ap, sym, subst, ◌∙◌, arith}
use Rattle.std.specs.Cmp.Lexicographic.{pointwise}
use Rattle.std.specs.Ordering.{is_eq}
use Rattle.std.specs.List.{AllByRecursion}
use Rattle.lp_timers.specs.declared.call_out.Call.{Call}
use Rattle.lp_timers.specs.Spots.{spot_cmp}
use Rattle.lp_timers.specs.Index.{IsNewIn}
use Rattle.lp_timers.specs.Indexed.{at_all, at_object, at_function, kept_at, passes}
use Rattle.lp_timers.specs.Waiting.{entry_call}
use Rattle.lp_timers.proofs.KeptLemmas.{absent, all_last, at_number, hits_all, hits_function, hits_object, map_last, none_kept, put_back, put_in, put_last}
use Rattle.lp_timers.proofs.call_outs.CallOuts.place.Goals as goal

pub invariant_of-self : goal.invariant_of-self
invariant_of-self c =
    let n = c.self.inside.next in
    let none = none_kept c.self.inside.calls.entries n c.self.invariant.below in
    let new : IsNewIn c.self.inside.index (record { group = c.args.ob.0; due = c.args.at; number = n }) = record {
      all = c.self.invariant.all (record { group = 0; due = c.args.at; number = n }) ∙ ap (passes (at_all (record { group = 0; due = c.args.at; number = n }))) none;
      objects = c.self.invariant.objects (record { group = c.args.ob.0; due = c.args.at; number = n }) ∙ ap (passes (at_object (record { group = c.args.ob.0; due = c.args.at; number = n }))) none;
    } in
    let same = c.in_err-add.ensures.err new in
    record {
      all = λ s. same.all s ∙ c.self.invariant.all s;
      objects = λ s. same.objects s ∙ c.self.invariant.objects s;
      functions = λ f s. same.functions f s ∙ c.self.invariant.functions f s;
      below = c.self.invariant.below;
      rising = c.self.invariant.rising;
    }

pub invariant_of-self-in-Ok : goal.invariant_of-self-in-Ok
invariant_of-self-in-Ok c =
    let n = c.self.inside.next in
    let es = c.self.inside.calls.entries in
    let o = c.args.ob.0 in
    let d = c.args.at in
    let call : Call = record { ob = c.args.ob; fun = c.in_ok-copy.field-0; due = c.args.at; args = c.args.args } in
    let none = none_kept es n c.self.invariant.below in
    let put = c.in_ok-add.ensures.ok in
    record {
      all = λ s. put_in (at_all s) _ _ _ call _ (kept_at es s.number) (c.self.invariant.all s) (put.all s) (hits_all o d n s) (at_number es n s.number None none)
          ∙ ap (passes (at_all s)) (sym (c.in-Ok.ensures.updates.0 s.number));
      objects = λ s. put_in (at_object s) _ _ _ call _ (kept_at es s.number) (c.self.invariant.objects s) (put.objects s) (hits_object o d n s) (at_number es n s.number None none)
          ∙ ap (passes (at_object s)) (sym (c.in-Ok.ensures.updates.0 s.number));
      functions = λ f s. put_in (at_function f s) _ _ _ call _ (kept_at es s.number) (c.self.invariant.functions f s) (put.functions f s)
          (ap (λ (g : List ℕ). pointwise nat_eq g f && is_eq (spot_cmp (record { group = o; due = d; number = n }) s)) (sym c.in_ok-copy.ensures) ∙ hits_function (pointwise nat_eq c.in_ok-copy.field-0 f) o d n s) (at_number es n s.number None none)
          ∙ ap (passes (at_function f s)) (sym (c.in-Ok.ensures.updates.0 s.number));
      below = subst (AllByRecursion (λ e. e.0 < n + 1)) (sym (c.in-Ok.ensures.entries ∙ put_last es n call c.self.invariant.below)) (all_last es n (n + 1) call c.self.invariant.below (omega arith));
      rising = c.insert.ensures.ordered;
    }

pub returns-in-Ok-clause-ok : goal.returns-in-Ok-clause-ok
returns-in-Ok-clause-ok c =
    let n = c.self.inside.next in
    let es = c.self.inside.calls.entries in
    let call : Call = record { ob = c.args.ob; fun = c.in_ok-copy.field-0; due = c.args.at; args = c.args.args } in
    rw (← c.self.view_is) (
      refl,
      ap (λ l. record { next = n + 1; call_outs = l })
          (ap (map entry_call) (c.in-Ok.ensures.entries ∙ put_last es n call c.self.invariant.below) ∙ map_last es n call
          ∙ ap (λ (f : List ℕ). map entry_call es ++ record { number = n; object = c.args.ob; function = f; due = c.args.at; arguments = c.args.args.items } ∷ []) c.in_ok-copy.ensures),
    )

pub invariant_of-self-in-Err : goal.invariant_of-self-in-Err
invariant_of-self-in-Err c =
    let n = c.self.inside.next in
    let es = c.self.inside.calls.entries in
    let o = c.args.ob.0 in
    let d = c.args.at in
    let none = none_kept es n c.self.invariant.below in
    let put = c.in_ok-add.ensures.ok in
    let out = c.remove.ensures in
    record {
      all = λ s. put_back _ _ _ _ (put.all s) (out.all s) (absent es n (at_all s) s.number _ _ _ none (c.self.invariant.all s) (hits_all o d n s))
          ∙ c.self.invariant.all s ∙ ap (λ fs. passes (at_all s) (kept_at fs s.number)) (sym c.in-Err.ensures.err);
      objects = λ s. put_back _ _ _ _ (put.objects s) (out.objects s) (absent es n (at_object s) s.number _ _ _ none (c.self.invariant.objects s) (hits_object o d n s))
          ∙ c.self.invariant.objects s ∙ ap (λ fs. passes (at_object s) (kept_at fs s.number)) (sym c.in-Err.ensures.err);
      functions = λ f s. put_back _ _ _ _ (put.functions f s) (out.functions f s) (absent es n (at_function f s) s.number _ _ _ none (c.self.invariant.functions f s) (hits_function (pointwise nat_eq c.args.fun.now f) o d n s))
          ∙ c.self.invariant.functions f s ∙ ap (λ fs. passes (at_function f s) (kept_at fs s.number)) (sym c.in-Err.ensures.err);
      below = subst (AllByRecursion (λ e. e.0 < n)) (sym c.in-Err.ensures.err) c.self.invariant.below;
      rising = c.insert.ensures.ordered;
    }
