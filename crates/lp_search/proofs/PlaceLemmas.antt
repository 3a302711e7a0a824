-- Ranges without a hit.
use Rattle.std.proofs.Common.{ℕ, Option, None, Some, ◌≡◌, ◌+◌, ◌-◌, ◌≤◌, List, true, false, length, take, drop, get_or, slice_index, nat_eq, length-take-le, length-drop, get_or-take, get_or-drop, eq-eqb, ap, subst, sym, ◌∙◌, arith, ⊎_elim}
use Rattle.std.specs.List.{list_any}
use Rattle.std.proofs.lemmas.List.Folds.{list_any_at}
use Rattle.std.proofs.lemmas.Bool.{cases_lt, cases_eq, false≢true}
use Rattle.lp_search.specs.Places.{IsFirst, Nowhere}

-- two ranges, one after the other
pub Nowhere-then : {P : ℕ → Type 0} {i j l : ℕ} → Nowhere P i j → Nowhere P j l → Nowhere P i l
Nowhere-then {P} {i} {j} front back k low high = ⊎_elim (λ below. front k low below) (λ from. back k from high) (cases_lt k j)

-- one place more
pub Nowhere-more : {P : ℕ → Type 0} {i j : ℕ} → Nowhere P i j → ¬ P j → Nowhere P i (j + 1)
Nowhere-more {P} {i} {j} front here k low high = ⊎_elim (λ e. subst (λ x. ¬ P x) (sym e) here) (λ ne. front k low (omega arith)) (cases_eq k j)

-- a group of which no code point passes the test of one lacks it
pub group-lacks : (hay : List ℕ) (c at n : ℕ) → at + n ≤ length hay → list_any (λ y. nat_eq y c) (take (at + n - at) (drop at hay)) ≡ false → Nowhere (λ k. slice_index hay k ≡ c) at (at + n)
group-lacks hay c at n fits none k low high is =
    let group = take (at + n - at) (drop at hay) in
    let count : at + n - at ≡ n = omega arith in
    let place : at + (k - at) ≡ k = omega arith in
    let within : length group ≡ at + n - at = length-take-le (at + n - at) (drop at hay) (omega (arith, length-drop at hay)) in
    let here : get_or group (k - at) 0 ≡ slice_index hay k =
    get_or-take (at + n - at) (drop at hay) (k - at) 0 (omega arith) ∙ get_or-drop at hay (k - at) 0 ∙ ap (slice_index hay) place in
    let found : list_any (λ y. nat_eq y c) group ≡ true = list_any_at (λ y. nat_eq y c) group (k - at) 0 (omega arith) (eq-eqb _ _ (here ∙ is)) in
    false≢true (sym none ∙ found)

-- a first place from later on, where there is none before
pub IsFirst-earlier : (P : ℕ → Type 0) (i j l : ℕ) (r : Option ℕ) → i ≤ j → Nowhere P i j → IsFirst P j l r → IsFirst P i l r
IsFirst-earlier P i j l None le front back = Nowhere-then front back
IsFirst-earlier P i j l (Some k) le front back = let low = back.0.low in (record { low = omega arith; high = back.0.high; before = Nowhere-then front back.0.before }, back.1)
