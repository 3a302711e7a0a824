-- What is among spots, and what an edit of the index means for the call-outs that wait.
use Rattle.std.proofs.Common.{◌≡◌, ℕ, Bool, true, false, cond, nat_eq, ◌&&◌, List, refl, sym, subst, ◌∙◌, arith}
use Rattle.std.specs.Ordering.{is_eq}
use Rattle.std.proofs.lemmas.Bool.Decides.{nat_tests}
use Rattle.lp_timers.specs.declared.spot.Spot.{Spot}
use Rattle.lp_timers.specs.Spots.{spot_cmp, is_among}

abbrev spot_with : ℕ → ℕ → ℕ → Spot
spot_with g d n = record { group = g; due = d; number = n }

-- two spots are one where their parts are
pub one_spot : (a b : Spot) → is_eq (spot_cmp a b) ≡ (nat_eq a.group b.group && (nat_eq a.due b.due && nat_eq a.number b.number))
one_spot a b = grind (arith, nat_tests)

of_parts : (g h d e n m : ℕ) → g ≡ h → d ≡ e → n ≡ m → spot_with g d n ≡ spot_with h e m
of_parts g h d e n m p q r = rw (p, q, r) refl

pub same_spot : (a b : Spot) → is_eq (spot_cmp a b) ≡ true → a ≡ b
same_spot a b h =
    let g : a.group ≡ b.group = grind (arith, nat_tests) in
    let d : a.due ≡ b.due = grind (arith, nat_tests) in
    let n : a.number ≡ b.number = grind (arith, nat_tests) in
    of_parts a.group b.group a.due b.due a.number b.number g d n

-- a spot that was put in and taken out again, where it was not
pub undone : (spot s : Spot) (olds news lasts : List Spot) → is_among olds spot ≡ false → is_among news s ≡ cond (is_eq (spot_cmp spot s)) true (is_among olds s) → is_among lasts s ≡ cond (is_eq (spot_cmp spot s)) false (is_among news s) → is_among lasts s ≡ is_among olds s
undone spot s olds news lasts new put out = step (is_eq (spot_cmp spot s)) refl put out
  where
    step : (b : Bool) → is_eq (spot_cmp spot s) ≡ b → is_among news s ≡ cond b true (is_among olds s) → is_among lasts s ≡ cond b false (is_among news s) → is_among lasts s ≡ is_among olds s
    step true r put out = out ∙ sym (subst (λ x. is_among olds x ≡ false) (same_spot spot s r) new)
    step false r put out = out ∙ put
