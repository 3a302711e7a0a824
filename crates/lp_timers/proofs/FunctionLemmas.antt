-- The call-outs of a function after an edit of the map of functions.
use Rattle.std.proofs.Common.{◌≡◌, Bool, true, false, cond, ◌&&◌, [], Option, Some, None, refl, sym, ap, ◌∙◌}
use Rattle.std.specs.BTreeSet.{BTreeSet}
use Rattle.std.specs.List.Sorted.{IsStrictlySortedBy}
use Rattle.lp_timers.specs.declared.spot.Spot.{Spot}
use Rattle.lp_timers.specs.Spots.{spot_cmp, is_among}
use Rattle.lp_timers.specs.Functions.{keys_or_none}

-- with another set at one function: a spot comes to b there, at that spot, and all else is as before
pub at_one : (here at b : Bool) (s : Spot) (old new : BTreeSet Spot) (was : Option (BTreeSet Spot)) → (here ≡ true → is_among (keys_or_none was) s ≡ is_among old.keys s) → is_among new.keys s ≡ cond at b (is_among old.keys s) → is_among (keys_or_none (cond here (Some new) was)) s ≡ cond (here && at) b (is_among (keys_or_none was) s)
at_one true at b s old new was same step = step ∙ ap (cond at b) (sym (same refl))
at_one false at b s old new was same step = refl

-- with none there, where there were none
pub at_none : (here : Bool) (s : Spot) (was : Option (BTreeSet Spot)) → (here ≡ true → keys_or_none was ≡ []) → is_among (keys_or_none (cond here None was)) s ≡ is_among (keys_or_none was) s
at_none true s was h = ap (λ ks. is_among ks s) (sym (h refl))
at_none false s was h = refl

-- with a set of the same spots at one function
pub at_one_same : (here : Bool) (s : Spot) (new : BTreeSet Spot) (was : Option (BTreeSet Spot)) → (here ≡ true → is_among (keys_or_none was) s ≡ is_among new.keys s) → is_among (keys_or_none (cond here (Some new) was)) s ≡ is_among (keys_or_none was) s
at_one_same true s new was same = sym (same refl)
at_one_same false s new was same = refl

-- with a set of one spot at a function that had none
pub at_new : (here at : Bool) (s : Spot) (new : BTreeSet Spot) (was : Option (BTreeSet Spot)) → (here ≡ true → keys_or_none was ≡ []) → is_among new.keys s ≡ cond at true false → is_among (keys_or_none (cond here (Some new) was)) s ≡ cond (here && at) true (is_among (keys_or_none was) s)
at_new true at s new was none step = step ∙ ap (λ ks. cond at true (is_among ks s)) (sym (none refl))
at_new false at s new was none step = refl

pub none_sorted : IsStrictlySortedBy spot_cmp []
unfolding IsStrictlySortedBy
none_sorted = tt
