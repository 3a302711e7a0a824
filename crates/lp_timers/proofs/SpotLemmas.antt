-- Call-outs in order: what stands next to what.
use Rattle.std.proofs.Common.{◌≡◌, ℕ, ◌<◌, ◌≤◌, Bool, true, false, cond, nat_eq, nat_le, List, [], ◌∷◌, Option, Some, None, refl, sym, ap, arith}
use Rattle.std.specs.declared.cmp.Ordering.{Ordering}
use Rattle.std.specs.declared.cmp.Ordering.TheVariants.{Less}
use Rattle.std.specs.declared.ops.Bound.TheVariants.{Included, Unbounded}
use Rattle.std.specs.Ordering.{nat_cmp, ordering_then, is_le}
use Rattle.std.specs.BTreeMap.Range.{range_contains}
use Rattle.std.specs.List.{filter, AllByRecursion}
use Rattle.std.specs.List.Sorted.{IsStrictlySortedBy}
use Rattle.std.proofs.lemmas.Cmp.{ranked, by_ranked}
use Rattle.std.proofs.lemmas.Bool.Decides.{nat_tests}
use Rattle.std.proofs.lemmas.Map.Keys.{sorted_head, sorted_tail}
use Rattle.lp_timers.specs.declared.spot.Spot.{Spot}
use Rattle.lp_timers.specs.Spots.{spot_cmp, in_group, head_spot, first_spot}

-- ---- tests of numbers

pub nat_eq_yes : (a b : ℕ) → a ≡ b → nat_eq a b ≡ true
nat_eq_yes a b e = grind (arith, nat_tests)

pub nat_eq_no : (a b : ℕ) → (a ≡ b → ⊥) → nat_eq a b ≡ false
nat_eq_no a b h = grind (arith, nat_tests)

nat_le_yes : (a b : ℕ) → a ≤ b → nat_le a b ≡ true
nat_le_yes a b h = grind (arith, nat_tests)

nat_le_no : (a b : ℕ) → b < a → nat_le a b ≡ false
nat_le_no a b h = grind (arith, nat_tests)

-- the first spot of a group is no further than those of it and of the groups above
from_test : (g x d n : ℕ) → is_le (ordering_then (nat_cmp g x) (ordering_then (nat_cmp 0 d) (nat_cmp 0 n))) ≡ nat_le g x
from_test g x d n = grind (arith, nat_tests)

-- ---- one group

group_le : (a b : ℕ) (r : Ordering) → ordering_then (nat_cmp a b) r ≡ Less → a ≤ b
group_le a b r h = grind (arith, nat_tests)

module _ (group : ℕ) where
  -- none of the group stands behind a spot of a group above
  pub none_past : (p : Spot) (ss : List Spot) → AllByRecursion (λ q. spot_cmp p q ≡ Less) ss → group < p.group → filter (in_group group) ss ≡ []
  none_past p [] h lt = refl
  none_past p (s ∷ ss) h lt =
      let le : p.group ≤ s.group = group_le p.group s.group _ h.0 in
      rw (nat_eq_no s.group group (λ x. omega arith)) (none_past p ss h.1 lt)

  -- a spot stands at the group's first place or behind it
  abbrev pub is_from : Spot → Bool
  is_from s = range_contains spot_cmp (Included (record { group = group; due = 0; number = 0 })) Unbounded s

  -- the first of the group, by the first spot that stands so
  abbrev pub if_of : List Spot → Option Spot
  if_of [] = None
  if_of (s ∷ ss) = cond (nat_eq s.group group) (Some s) None

  -- is the first one
  pub first_is : (ss : List Spot) → IsStrictlySortedBy spot_cmp ss → if_of (filter is_from ss) ≡ first_spot group ss
  first_is [] s = refl
  first_is (e ∷ es) s =
      let tail = first_is es (sorted_tail spot_cmp e es s) in
      by_ranked (group < e.group) (group ≡ e.group) (e.group < group) (nat_cmp group e.group) (ranked group e.group _ refl)
      (λ r lt. rw (from_test group e.group e.due e.number, nat_le_yes group e.group (omega arith), nat_eq_no e.group group (λ x. omega arith))
      (sym (ap head_spot (none_past e es (sorted_head spot_cmp e es s) lt))))
      (λ r same. rw (from_test group e.group e.due e.number, nat_le_yes group e.group (omega arith), nat_eq_yes e.group group (sym same)) refl)
      (λ r gt. rw (from_test group e.group e.due e.number, nat_le_no group e.group gt, nat_eq_no e.group group (λ x. omega arith)) tail)
