-- Each call-out has a number of its own, below the next one, where one comes and where some go.
use Rattle.std.proofs.Common.{◌≡◌, ◌≢◌, ◌<◌, ◌+◌, ◌++◌, ℕ, Bool, true, false, List, [], ◌∷◌, All, sym, subst, filter, if◌then◌else◌, arith}
use Rattle.std.proofs.lemmas.List.Elements.{All-append, All-cons, All-filter, All-head, All-nil, All-tail, All-weaker}
use Rattle.lp_timers.specs.Timers.{CallOut}
use Rattle.lp_timers.specs.Timing.{Timing}
use Rattle.lp_world.specs.Closed.{AreNumbered, AreNumberedOnce}

-- where some go
pub once_filter : (p : CallOut → Bool) (cs : List CallOut) → AreNumberedOnce cs → AreNumberedOnce (filter p cs)
once_filter p [] h = tt
once_filter p (c ∷ cs) h = kept (p c) (once_filter p cs h.1)
  where
    kept : (b : Bool) → AreNumberedOnce (filter p cs) → AreNumberedOnce (if b then c ∷ filter p cs else filter p cs)
    kept true i = (All-filter p (λ (d : CallOut). d.number ≢ c.number) cs h.0, i)
    kept false i = i

pub numbered_filter : (p : CallOut → Bool) (old new : Timing) → new.next ≡ old.next → new.call_outs ≡ filter p old.call_outs → AreNumbered old → AreNumbered new
numbered_filter p old new n e h = record {
  once = subst AreNumberedOnce (sym e) (once_filter p old.call_outs h.once);
  below = subst (λ k. All (λ (c : CallOut). c.number < k) new.call_outs) (sym n)
      (subst (All (λ (c : CallOut). c.number < old.next)) (sym e) (All-filter p (λ (c : CallOut). c.number < old.next) old.call_outs h.below));
}

-- where they stay
pub numbered_same : (old new : Timing) → new.next ≡ old.next → new.call_outs ≡ old.call_outs → AreNumbered old → AreNumbered new
numbered_same old new n e h = record {
  once = subst AreNumberedOnce (sym e) h.once;
  below = subst (λ k. All (λ (c : CallOut). c.number < k) new.call_outs) (sym n) (subst (All (λ (c : CallOut). c.number < old.next)) (sym e) h.below);
}

-- where one comes
apart_from : (n : ℕ) (c x : CallOut) → c.number ≡ n → x.number < n → c.number ≢ x.number
apart_from n c x e l q = absurd (omega (arith, e, l, q))

once_more : (n : ℕ) (c : CallOut) (cs : List CallOut) → c.number ≡ n → All (λ (d : CallOut). d.number < n) cs → AreNumberedOnce cs → AreNumberedOnce (cs ++ c ∷ [])
once_more n c [] e l h = (All-nil (λ (d : CallOut). d.number ≢ c.number), tt)
once_more n c (x ∷ xs) e l h = (
  All-append (λ (d : CallOut). d.number ≢ x.number) xs (c ∷ []) h.0
      (All-cons (λ (d : CallOut). d.number ≢ x.number) c [] (apart_from n c x e (All-head (λ (d : CallOut). d.number < n) x xs l)) (All-nil (λ (d : CallOut). d.number ≢ x.number))),
  once_more n c xs e (All-tail (λ (d : CallOut). d.number < n) x xs l) h.1,
)

less_more : (k n : ℕ) → k < n → k < n + 1
less_more k n l = omega (arith, l)

less_last : (k n : ℕ) → k ≡ n → k < n + 1
less_last k n e = omega (arith, e)

below_more : (n : ℕ) (c : CallOut) (cs : List CallOut) → c.number ≡ n → All (λ (d : CallOut). d.number < n) cs → All (λ (d : CallOut). d.number < n + 1) (cs ++ c ∷ [])
below_more n c cs e l =
    All-append (λ (d : CallOut). d.number < n + 1) cs (c ∷ []) (All-weaker (λ (d : CallOut). d.number < n) (λ (d : CallOut). d.number < n + 1) (λ d k. less_more d.number n k) cs l)
    (All-cons (λ (d : CallOut). d.number < n + 1) c [] (less_last c.number n e) (All-nil (λ (d : CallOut). d.number < n + 1)))

pub numbered_more : (old new : Timing) (c : CallOut) → c.number ≡ old.next → new.next ≡ old.next + 1 → new.call_outs ≡ old.call_outs ++ c ∷ [] → AreNumbered old → AreNumbered new
numbered_more old new c q n e h = record {
  once = subst AreNumberedOnce (sym e) (once_more old.next c old.call_outs q h.below h.once);
  below = subst (λ k. All (λ (d : CallOut). d.number < k) new.call_outs) (sym n)
      (subst (All (λ (d : CallOut). d.number < old.next + 1)) (sym e) (below_more old.next c old.call_outs q h.below));
}
