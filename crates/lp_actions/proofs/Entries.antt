-- Actions by holder and number: what stands next to what, and what an edit does.
use Rattle.std.proofs.Common.{◌≡◌, ℕ, ◌<◌, ◌≤◌, Bool, true, false, cond, nat_eq, nat_le, List, [], ◌∷◌, ◌++◌, Option, Some, None, refl, sym, ap, subst, ◌∙◌, arith, ◌⊎◌, inl, inr, is_some}
use Rattle.std.specs.declared.ops.Bound.TheVariants.{Included, Unbounded}
use Rattle.std.specs.BTreeMap.Range.{range_contains}
use Rattle.std.specs.declared.cmp.Ordering.{Ordering}
use Rattle.std.specs.declared.cmp.Ordering.TheVariants.{Less, Equal, Greater}
use Rattle.std.specs.Ordering.{nat_cmp, ordering_then, match_ordering, is_le, is_eq}
use Rattle.std.specs.List.{filter, AllByRecursion}
use Rattle.std.specs.List.Sorted.{IsStrictlySortedBy}
use Rattle.std.specs.Map.{keys_of, lookup, remove_entry}
use Rattle.std.specs.BTreeMap.{insert_entry, is_at}
use Rattle.std.proofs.lemmas.Cmp.{ranked, by_ranked}
use Rattle.std.proofs.lemmas.Bool.Decides.{nat_tests}
use Rattle.std.proofs.lemmas.List.{append-nil}
use Rattle.std.proofs.lemmas.Map.Keys.{sorted_head, sorted_tail}
use Rattle.lp_values.specs.declared.id.ObjId.{ObjId}
use Rattle.lp_actions.specs.declared.sentence.Place.{Place}
use Rattle.lp_actions.specs.declared.sentence.Deed.{Deed}
use Rattle.lp_actions.specs.Stored.{is_of, place_cmp, head_place, first_place}

-- ---- two places

-- a place below another: of a holder below, or of the same holder with a number below
abbrev pub Below : Place → Place → Type 0
Below a b = (a.holder < b.holder) ⊎ ((a.holder ≡ b.holder) × (a.number < b.number))

-- the three ways in which two places may stand
abbrev pub Stand : Place → Place → Ordering → Type 0
Stand a b Less = Below a b
Stand a b Equal = (a.holder ≡ b.holder) × (a.number ≡ b.number)
Stand a b Greater = Below b a

pub stand : (a b : Place) → Stand a b (place_cmp a b)
stand a b =
    by_ranked (a.holder < b.holder) (a.holder ≡ b.holder) (b.holder < a.holder) (nat_cmp a.holder b.holder) (ranked a.holder b.holder _ refl)
    (λ e h. subst (λ r. Stand a b (ordering_then r (nat_cmp a.number b.number))) (sym e) (inl h))
    (λ e h. subst (λ r. Stand a b (ordering_then r (nat_cmp a.number b.number))) (sym e)
    (by_ranked (a.number < b.number) (a.number ≡ b.number) (b.number < a.number) (nat_cmp a.number b.number) (ranked a.number b.number _ refl)
    (λ f k. subst (Stand a b) (sym f) (inr (h, k)))
    (λ f k. subst (Stand a b) (sym f) (h, k))
    (λ f k. subst (Stand a b) (sym f) (inr (sym h, k)))))
    (λ e h. subst (λ r. Stand a b (ordering_then r (nat_cmp a.number b.number))) (sym e) (inl h))

holder_le : (a b : Place) → Below a b → a.holder ≤ b.holder
holder_le a b (inl h) = omega arith
holder_le a b (inr h) = omega arith

-- ---- tests of numbers

pub nat_eq_yes : (a b : ℕ) → a ≡ b → nat_eq a b ≡ true
nat_eq_yes a b e = grind (arith, nat_tests)

pub nat_eq_no : (a b : ℕ) → (a ≡ b → ⊥) → nat_eq a b ≡ false
nat_eq_no a b h = grind (arith, nat_tests)

-- the first place of a holder is no further than those of it and of the holders above
from_test : (h x n : ℕ) → is_le (ordering_then (nat_cmp h x) (nat_cmp 0 n)) ≡ nat_le h x
from_test h x n = grind (arith, nat_tests)

nat_le_yes : (a b : ℕ) → a ≤ b → nat_le a b ≡ true
nat_le_yes a b h = grind (arith, nat_tests)

nat_le_no : (a b : ℕ) → b < a → nat_le a b ≡ false
nat_le_no a b h = grind (arith, nat_tests)

-- ---- the entries of one holder

module _ (holder : ObjId) where
  -- no entry of the holder stands behind a place of a holder above
  pub none_past : (p : Place) (es : List (Place × Deed)) → AllByRecursion (λ q. place_cmp p q ≡ Less) (keys_of es) → holder.0 < p.holder → filter (is_of holder) es ≡ []
  none_past p [] h lt = refl
  none_past p (e ∷ es) h lt =
      let le : p.holder ≤ e.0.holder = holder_le p e.0 (subst (Stand p e.0) h.0 (stand p e.0)) in
      rw (nat_eq_no e.0.holder holder.0 (λ x. omega arith)) (none_past p es h.1 lt)

  -- an entry stands at the holder's first place or behind it
  abbrev pub is_from : Place × Deed → Bool
  is_from e = range_contains place_cmp (Included (record { holder = holder.0; number = 0 })) Unbounded e.0

  -- the place of the holder's first action, by the first entry that stands so
  abbrev pub if_of : List (Place × Deed) → Option Place
  if_of [] = None
  if_of (e ∷ es) = cond (nat_eq e.0.holder holder.0) (Some e.0) None

  -- is the place of the first of its actions
  pub first_is : (es : List (Place × Deed)) → IsStrictlySortedBy place_cmp (keys_of es) → if_of (filter is_from es) ≡ first_place holder es
  first_is [] s = refl
  first_is (e ∷ es) s =
      let tail = first_is es (sorted_tail place_cmp e.0 (keys_of es) s) in
      by_ranked (holder.0 < e.0.holder) (holder.0 ≡ e.0.holder) (e.0.holder < holder.0) (nat_cmp holder.0 e.0.holder) (ranked holder.0 e.0.holder _ refl)
      (λ r lt. rw (from_test holder.0 e.0.holder e.0.number, nat_le_yes holder.0 e.0.holder (omega arith), nat_eq_no e.0.holder holder.0 (λ x. omega arith))
      (sym (ap head_place (none_past e.0 es (sorted_head place_cmp e.0 (keys_of es) s) lt))))
      (λ r same. rw (from_test holder.0 e.0.holder e.0.number, nat_le_yes holder.0 e.0.holder (omega arith), nat_eq_yes e.0.holder holder.0 (sym same)) refl)
      (λ r gt. rw (from_test holder.0 e.0.holder e.0.number, nat_le_no holder.0 e.0.holder gt, nat_eq_no e.0.holder holder.0 (λ x. omega arith)) tail)

-- ---- a new action

module _ (holder number : ℕ) (deed : Deed) where
  -- the entry, if it is an action of an object
  abbrev pub here : ObjId → List (Place × Deed)
  here q = cond (nat_eq holder q.0) ((record { holder = holder; number = number }, deed) ∷ []) []

  -- where its holder has no entry, nor any behind it
  first_one : (fs : List (Place × Deed)) (q : ObjId) → filter (is_of (record { 0 = holder })) fs ≡ [] → cond (nat_eq holder q.0) ((record { holder = holder; number = number }, deed) ∷ filter (is_of q) fs) (filter (is_of q) fs) ≡ filter (is_of q) fs ++ here q
  first_one fs q none =
      by_ranked (holder < q.0) (holder ≡ q.0) (q.0 < holder) (nat_cmp holder q.0) (ranked holder q.0 _ refl)
      (λ r lt. rw (nat_eq_no holder q.0 (λ x. omega arith)) (sym (append-nil (filter (is_of q) fs))))
      (λ r same. rw (nat_eq_yes holder q.0 same) (
      let nothing : filter (is_of q) fs ≡ [] = subst (λ h. filter (is_of (record { 0 = h })) fs ≡ []) same none in
      rw nothing refl))
      (λ r gt. rw (nat_eq_no holder q.0 (λ x. omega arith)) (sym (append-nil (filter (is_of q) fs))))

  -- where it stands before an entry, that one's holder is above
  above_it : (p : Place) (d : Deed) (es : List (Place × Deed)) → Below (record { holder = holder; number = number }) p → AllByRecursion (λ e. e.0.number < number) (filter (is_of (record { 0 = holder })) ((p, d) ∷ es)) → holder < p.holder
  above_it p d es (inl lt) h = lt
  above_it p d es (inr both) h =
      let k : AllByRecursion (λ e. e.0.number < number) (cond true ((p, d) ∷ filter (is_of (record { 0 = holder })) es) (filter (is_of (record { 0 = holder })) es)) =
      subst (λ (b : Bool). AllByRecursion (λ e. e.0.number < number) (cond b ((p, d) ∷ filter (is_of (record { 0 = holder })) es) (filter (is_of (record { 0 = holder })) es))) (nat_eq_yes p.holder holder (sym both.0)) h in
      absurd (omega (arith, k.0, both.1))

  not_same : (p : Place) (d : Deed) (es : List (Place × Deed)) → (holder ≡ p.holder) × (number ≡ p.number) → AllByRecursion (λ e. e.0.number < number) (filter (is_of (record { 0 = holder })) ((p, d) ∷ es)) → ⊥
  not_same p d es both h =
      let k : AllByRecursion (λ e. e.0.number < number) (cond true ((p, d) ∷ filter (is_of (record { 0 = holder })) es) (filter (is_of (record { 0 = holder })) es)) =
      subst (λ (b : Bool). AllByRecursion (λ e. e.0.number < number) (cond b ((p, d) ∷ filter (is_of (record { 0 = holder })) es) (filter (is_of (record { 0 = holder })) es))) (nat_eq_yes p.holder holder (sym both.0)) h in
      omega (arith, k.0, both.1)

  rest_of : (b : Bool) (e : Place × Deed) (fs : List (Place × Deed)) → AllByRecursion (λ e. e.0.number < number) (cond b (e ∷ fs) fs) → AllByRecursion (λ e. e.0.number < number) fs
  rest_of true e fs h = h.1
  rest_of false e fs h = h

  behind_first : (b : Bool) (e : Place × Deed) (fs gs hs : List (Place × Deed)) → fs ≡ gs ++ hs → cond b (e ∷ fs) fs ≡ cond b (e ∷ gs) gs ++ hs
  behind_first true e fs gs hs h = ap (λ xs. e ∷ xs) h
  behind_first false e fs gs hs h = h

  -- it stands behind each other one of its holder
  pub appended : (es : List (Place × Deed)) (q : ObjId) → IsStrictlySortedBy place_cmp (keys_of es) → AllByRecursion (λ e. e.0.number < number) (filter (is_of (record { 0 = holder })) es) → filter (is_of q) (insert_entry place_cmp es (record { holder = holder; number = number }) deed) ≡ filter (is_of q) es ++ here q
  appended [] q s h = refl
  appended (e ∷ es) q s h =
      let more : filter (is_of q) (insert_entry place_cmp es (record { holder = holder; number = number }) deed) ≡ filter (is_of q) es ++ here q =
      appended es q (sorted_tail place_cmp e.0 (keys_of es) s) (rest_of (nat_eq e.0.holder holder) e (filter (is_of (record { 0 = holder })) es) h) in
      elim (place_cmp (record { holder = holder; number = number }) e.0) as (λ r. place_cmp (record { holder = holder; number = number }) e.0 ≡ r → filter (is_of q) (match_ordering r ((record { holder = holder; number = number }, deed) ∷ e ∷ es) ((e.0, deed) ∷ es) (e ∷ insert_entry place_cmp es (record { holder = holder; number = number }) deed)) ≡ filter (is_of q) (e ∷ es) ++ here q) [
        | Less ↦ λ r.
            let lt : holder < e.0.holder = above_it e.0 e.1 es (subst (Stand (record { holder = holder; number = number }) e.0) r (stand _ e.0)) h in
            let none : filter (is_of (record { 0 = holder })) (e ∷ es) ≡ [] =
            rw (nat_eq_no e.0.holder holder (λ x. omega arith)) (none_past (record { 0 = holder }) e.0 es (sorted_head place_cmp e.0 (keys_of es) s) lt) in
            first_one (e ∷ es) q none
        | Equal ↦ λ r. absurd (not_same e.0 e.1 es (subst (Stand (record { holder = holder; number = number }) e.0) r (stand _ e.0)) h)
        | Greater ↦ λ r. behind_first (nat_eq e.0.holder q.0) e _ (filter (is_of q) es) (here q) more
      ] refl

-- ---- an action that ends

pub is_of_other : (place : Place) (q : ObjId) (x : Place) → nat_eq place.holder q.0 ≡ false → is_eq (place_cmp place x) ≡ true → nat_eq x.holder q.0 ≡ false
is_of_other place q x apart same = grind (arith, nat_tests)

module _ (place : Place) (q : ObjId) (apart : nat_eq place.holder q.0 ≡ false) where
  -- the actions of the others stay
  pub others_stay : (es : List (Place × Deed)) → filter (is_of q) (remove_entry (is_at (place_cmp place)) es) ≡ filter (is_of q) es
  others_stay [] = refl
  others_stay (e ∷ es) = step (is_eq (place_cmp place e.0)) refl (others_stay es)
    where
      step : (b : Bool) → is_eq (place_cmp place e.0) ≡ b → filter (is_of q) (remove_entry (is_at (place_cmp place)) es) ≡ filter (is_of q) es → filter (is_of q) (cond b es (e ∷ remove_entry (is_at (place_cmp place)) es)) ≡ filter (is_of q) (e ∷ es)
      step true r more = rw (is_of_other place q e.0 apart r) refl
      step false r more = rw more refl

-- the first action of an object is there, and is its own
pub first_there : (holder : ObjId) (place : Place) (es : List (Place × Deed)) → first_place holder es ≡ Some place → (place.holder ≡ holder.0) × (is_some (lookup (is_at (place_cmp place)) es) ≡ true)
first_there holder place [] h = absurd (cc)
first_there holder place (e ∷ es) h = step (nat_eq e.0.holder holder.0) refl h (first_there holder place es)
  where
    itself : (p : Place) → is_eq (place_cmp p p) ≡ true
    itself p = grind (arith, nat_tests)

    some_first : (b : Bool) (x : Deed) (o : Option Deed) → is_some o ≡ true → is_some (cond b (Some x) o) ≡ true
    some_first true x o k = refl
    some_first false x o k = k

    step : (b : Bool) → nat_eq e.0.holder holder.0 ≡ b → head_place (cond b (e ∷ filter (is_of holder) es) (filter (is_of holder) es)) ≡ Some place → (first_place holder es ≡ Some place → (place.holder ≡ holder.0) × (is_some (lookup (is_at (place_cmp place)) es) ≡ true)) → (place.holder ≡ holder.0) × (is_some (lookup (is_at (place_cmp place)) (e ∷ es)) ≡ true)
    step true r k more =
        let same : e.0 ≡ place = cc in
        let own : e.0.holder ≡ holder.0 = grind (arith, nat_tests) in
        (sym (ap (λ (p : Place). p.holder) same) ∙ own, subst (λ p. is_some (cond (is_eq (place_cmp p e.0)) (Some e.1) (lookup (is_at (place_cmp p)) es)) ≡ true) same (rw (itself e.0) refl))
    step false r k more = ((more k).0, some_first (is_eq (place_cmp place e.0)) e.1 (lookup (is_at (place_cmp place)) es) (more k).1)

-- where an object has no first action it has none
pub none_from_first : (holder : ObjId) (es : List (Place × Deed)) → first_place holder es ≡ None → filter (is_of holder) es ≡ []
none_from_first holder es h = step (filter (is_of holder) es) h
  where
    step : (fs : List (Place × Deed)) → head_place fs ≡ None → fs ≡ []
    step [] k = refl
    step (f ∷ fs) k = absurd (cc)
