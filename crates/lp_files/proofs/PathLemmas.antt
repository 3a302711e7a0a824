-- What a search finds among rising paths, and what an edit at that place does.
use Rattle.std.proofs.Common.{◌≡◌, ℕ, zero, suc, ◌+◌, ◌<◌, ◌≤◌, Bool, true, false, not, ◌||◌, List, [], ◌∷◌, map, length, get_or, Result, Ok, Err, IfOk, IfErr, refl, sym, ap, subst, ◌∙◌, arith}
use Rattle.std.proofs.lemmas.Bool.{true≢false}
use Rattle.std.specs.declared.cmp.Ordering.{Ordering}
use Rattle.std.specs.declared.cmp.Ordering.TheVariants.{Less, Equal, Greater}
use Rattle.std.specs.Ordering.{ordering_index, ordering_reverse, is_lt, is_eq}
use Rattle.std.specs.Cmp.Lexicographic.{nat_list_cmp_total}
use Rattle.std.specs.FinMap.{nat_cmp-IsAntisymmetric, slice_cmp-IsAntisymmetric}
use Rattle.std.specs.List.{insert, remove, AllByRecursion}
use Rattle.std.specs.List.Sorted.{IsStrictlySortedBy, IsSearchInRange, IsBinarySearchResult, IsNonDecreasingBy}
use Rattle.std.specs.Str.{bytes_eq}
use Rattle.std.proofs.lemmas.List.Kept.{IsStrictlySortedBy-filter}
use Rattle.std.proofs.lemmas.List.Sorted.{searchable_from_sorted}
use Rattle.std.proofs.lemmas.Map.Keys.{sorted_head, sorted_tail}
use Rattle.std.proofs.lemmas.Map.Text.{is_eq-slice_cmp}
use Rattle.lp_files.specs.Paths.{path_cmp, IsRising, lists, by_order, with_path, without_path, IsAt, IsGapFor}

-- ---- two paths

-- one that is below another comes the other way round above it
turned : (p q : List ℕ) (r : Ordering) → path_cmp q p ≡ r → path_cmp p q ≡ ordering_reverse r
turned p q r e = nat_list_cmp_total.antisymm p q ∙ ap ordering_reverse e

equal_is : (p q : List ℕ) (r : Ordering) → path_cmp q p ≡ r → bytes_eq p q ≡ is_eq (ordering_reverse r)
equal_is p q r e = sym (is_eq-slice_cmp p q) ∙ ap is_eq (turned p q r e)

same_path : (p q : List ℕ) → path_cmp q p ≡ Equal → q ≡ p
same_path p q e = slice_cmp-IsAntisymmetric nat_cmp-IsAntisymmetric q p e

-- ---- what a search finds

module _ {X : Type 0} (f : X → List ℕ) where
  each_below : (xs : List X) → IsRising (map f xs) → (k : ℕ) (d : X) → suc k < length xs → is_lt (path_cmp (f (get_or xs (suc k) d)) (f (get_or xs k d))) ≡ false
  unfolding IsStrictlySortedBy
  each_below [] s k d lt = absurd (omega arith)
  each_below (x ∷ []) s k d lt = absurd (omega arith)
  each_below (x ∷ y ∷ xs) s zero d lt = ap is_lt (turned (f y) (f x) Less s.0.0)
  each_below (x ∷ y ∷ xs) s (suc k) d lt = each_below (y ∷ xs) s.1 k d (omega arith)

  comparisons_rise : (p : List ℕ) (xs : List X) → IsRising (map f xs) → IsNonDecreasingBy (λ y. ordering_index (path_cmp (f y) p)) xs
  comparisons_rise p xs s = searchable_from_sorted nat_list_cmp_total f xs p (λ k d low high.
      let next : k + 1 ≡ suc k = omega arith in
      rw next (each_below xs s k d (omega arith)))

  at_mapped : (P : List ℕ → Type 0) (xs : List X) (k : ℕ) → k < length xs → ((d : X) → P (f (get_or xs k d))) → P (get_or (map f xs) k [])
  at_mapped P [] k lt h = absurd (omega arith)
  at_mapped P (x ∷ xs) zero lt h = h x
  at_mapped P (x ∷ xs) (suc k) lt h = at_mapped P xs k (omega arith) h

  length-mapped : (xs : List X) → length (map f xs) ≡ length xs
  length-mapped [] = refl
  length-mapped (x ∷ xs) = ap suc (length-mapped xs)

  pub found : (p : List ℕ) (xs : List X) (r : Result ℕ ℕ) → IsSearchInRange r (length xs) → IsBinarySearchResult (λ y. path_cmp (f y) p) xs r → IfOk r (λ i. IsAt p (map f xs) i)
  found p xs (Ok i) range equal = record {
    in_range = rw (length-mapped xs) range;
    has = same_path p _ (at_mapped (λ q. path_cmp q p ≡ Equal) xs i range equal);
  }
  found p xs (Err i) range parted = tt

  pub gap : (p : List ℕ) (xs : List X) (r : Result ℕ ℕ) → IsRising (map f xs) → IsSearchInRange r (length xs) → IsBinarySearchResult (λ y. path_cmp (f y) p) xs r → IfErr r (λ i. IsGapFor p (map f xs) i)
  gap p xs (Ok i) rising range equal = tt
  gap p xs (Err i) rising range parted =
      let parts = parted (comparisons_rise p xs rising) in
      record {
        in_range = rw (length-mapped xs) range;
        below = λ j lt. at_mapped (λ q. path_cmp q p ≡ Less) xs j (omega arith) (λ d. parts.0 j d (omega arith) lt);
        above = λ j le lt. at_mapped (λ q. path_cmp q p ≡ Greater) xs j (rw (sym (length-mapped xs)) lt) (λ d. parts.1 j d le (rw (sym (length-mapped xs)) lt));
      }

  pub map_insert : (xs : List X) (i : ℕ) (x : X) → map f (insert xs i x) ≡ insert (map f xs) i (f x)
  map_insert [] zero x = refl
  map_insert [] (suc i) x = refl
  map_insert (y ∷ xs) zero x = refl
  map_insert (y ∷ xs) (suc i) x = ap (λ qs. f y ∷ qs) (map_insert xs i x)

  pub map_remove : (xs : List X) (i : ℕ) → map f (remove xs i) ≡ remove (map f xs) i
  map_remove [] zero = refl
  map_remove [] (suc i) = refl
  map_remove (y ∷ xs) zero = refl
  map_remove (y ∷ xs) (suc i) = ap (λ qs. f y ∷ qs) (map_remove xs i)

-- ---- a path that is not there

tail_gap : (p q : List ℕ) (qs : List (List ℕ)) (i : ℕ) → IsGapFor p (q ∷ qs) (suc i) → IsGapFor p qs i
tail_gap p q qs i g = record {
  in_range = let le : suc i ≤ suc (length qs) = g.in_range in omega arith;
  below = λ j lt. g.below (suc j) (omega arith);
  above = λ j le lt. g.above (suc j) (omega arith) (omega arith);
}

rest_gap : (p q : List ℕ) (qs : List (List ℕ)) → IsGapFor p (q ∷ qs) 0 → IsGapFor p qs 0
rest_gap p q qs g = record {
  in_range = omega arith;
  below = λ j lt. absurd (omega arith);
  above = λ j le lt. g.above (suc j) (omega arith) (omega arith);
}

pub with_path-gap : (p : List ℕ) (qs : List (List ℕ)) (i : ℕ) → IsGapFor p qs i → with_path p qs ≡ insert qs i p
with_path-gap p [] zero g = refl
with_path-gap p [] (suc i) g = absurd (let le : suc i ≤ 0 = g.in_range in omega arith)
with_path-gap p (q ∷ qs) zero g = ap (λ r. by_order r (q ∷ with_path p qs) (q ∷ qs) (p ∷ q ∷ qs)) (g.above 0 (omega arith) (omega arith))
with_path-gap p (q ∷ qs) (suc i) g =
    ap (λ r. by_order r (q ∷ with_path p qs) (q ∷ qs) (p ∷ q ∷ qs)) (g.below 0 (omega arith))
    ∙ ap (λ rs. q ∷ rs) (with_path-gap p qs i (tail_gap p q qs i g))

pub lists-gap : (p : List ℕ) (qs : List (List ℕ)) (i : ℕ) → IsGapFor p qs i → lists p qs ≡ false
lists-gap p [] i g = refl
lists-gap p (q ∷ qs) zero g = rw (equal_is p q Greater (g.above 0 (omega arith) (omega arith))) (lists-gap p qs 0 (rest_gap p q qs g))
lists-gap p (q ∷ qs) (suc i) g = rw (equal_is p q Less (g.below 0 (omega arith))) (lists-gap p qs i (tail_gap p q qs i g))

-- ---- a path that is there

-- the paths behind a path are others
others_behind : (p : List ℕ) (qs : List (List ℕ)) → AllByRecursion (λ y. path_cmp p y ≡ Less) qs → without_path p qs ≡ qs
others_behind p [] a = refl
others_behind p (q ∷ qs) a =
    rw (sym (is_eq-slice_cmp p q) ∙ ap is_eq a.0) (ap (λ rs. q ∷ rs) (others_behind p qs a.1))

at_head : (P : List ℕ → Type 0) (qs : List (List ℕ)) (i : ℕ) → i < length qs → AllByRecursion P qs → P (get_or qs i [])
at_head P [] i lt a = absurd (omega arith)
at_head P (q ∷ qs) zero lt a = a.0
at_head P (q ∷ qs) (suc i) lt a = at_head P qs i (omega arith) a.1

tail_at : (p q : List ℕ) (qs : List (List ℕ)) (i : ℕ) → IsAt p (q ∷ qs) (suc i) → IsAt p qs i
tail_at p q qs i a = record { in_range = let lt : suc i < suc (length qs) = a.in_range in omega arith; has = a.has }

first_below : (p q : List ℕ) (qs : List (List ℕ)) (i : ℕ) → IsRising (q ∷ qs) → IsAt p (q ∷ qs) (suc i) → path_cmp q p ≡ Less
first_below p q qs i s a =
    let inside = tail_at p q qs i a in
    subst (λ r. path_cmp q r ≡ Less) inside.has (at_head (λ y. path_cmp q y ≡ Less) qs i inside.in_range (sorted_head path_cmp q qs s))

first_same : (p q : List ℕ) (qs : List (List ℕ)) → IsAt p (q ∷ qs) 0 → q ≡ p
first_same p q qs a = a.has

path_itself : (p : List ℕ) → path_cmp p p ≡ Equal
path_itself p = Rattle.std.specs.Cmp.tied_itself nat_list_cmp_total p

pub with_path-at : (p : List ℕ) (qs : List (List ℕ)) (i : ℕ) → IsRising qs → IsAt p qs i → with_path p qs ≡ qs
with_path-at p [] i s a = absurd (let lt : i < 0 = a.in_range in omega arith)
with_path-at p (q ∷ qs) zero s a = ap (λ r. by_order r (q ∷ with_path p qs) (q ∷ qs) (p ∷ q ∷ qs)) (subst (λ r. path_cmp r p ≡ Equal) (sym (first_same p q qs a)) (path_itself p))
with_path-at p (q ∷ qs) (suc i) s a =
    ap (λ r. by_order r (q ∷ with_path p qs) (q ∷ qs) (p ∷ q ∷ qs)) (first_below p q qs i s a)
    ∙ ap (λ rs. q ∷ rs) (with_path-at p qs i (sorted_tail path_cmp q qs s) (tail_at p q qs i a))

pub lists-at : (p : List ℕ) (qs : List (List ℕ)) (i : ℕ) → IsRising qs → IsAt p qs i → lists p qs ≡ true
lists-at p [] i s a = absurd (let lt : i < 0 = a.in_range in omega arith)
lists-at p (q ∷ qs) zero s a = rw (equal_is p q Equal (subst (λ r. path_cmp r p ≡ Equal) (sym (first_same p q qs a)) (path_itself p))) refl
lists-at p (q ∷ qs) (suc i) s a = rw (equal_is p q Less (first_below p q qs i s a)) (lists-at p qs i (sorted_tail path_cmp q qs s) (tail_at p q qs i a))

pub without_path-at : (p : List ℕ) (qs : List (List ℕ)) (i : ℕ) → IsRising qs → IsAt p qs i → without_path p qs ≡ remove qs i
without_path-at p [] i s a = absurd (let lt : i < 0 = a.in_range in omega arith)
without_path-at p (q ∷ qs) zero s a =
    rw (equal_is p q Equal (subst (λ r. path_cmp r p ≡ Equal) (sym (first_same p q qs a)) (path_itself p)))
    (others_behind p qs (subst (λ r. AllByRecursion (λ y. path_cmp r y ≡ Less) qs) (first_same p q qs a) (sorted_head path_cmp q qs s)))
without_path-at p (q ∷ qs) (suc i) s a =
    rw (equal_is p q Less (first_below p q qs i s a)) (ap (λ rs. q ∷ rs) (without_path-at p qs i (sorted_tail path_cmp q qs s) (tail_at p q qs i a)))

pub without_path-gap : (p : List ℕ) (qs : List (List ℕ)) (i : ℕ) → IsGapFor p qs i → without_path p qs ≡ qs
without_path-gap p [] i g = refl
without_path-gap p (q ∷ qs) zero g = rw (equal_is p q Greater (g.above 0 (omega arith) (omega arith))) (ap (λ rs. q ∷ rs) (without_path-gap p qs 0 (rest_gap p q qs g)))
without_path-gap p (q ∷ qs) (suc i) g = rw (equal_is p q Less (g.below 0 (omega arith))) (ap (λ rs. q ∷ rs) (without_path-gap p qs i (tail_gap p q qs i g)))

-- ---- the order stays

cases_order : (r : Ordering) (P : Ordering → Type 0) → P Less → P Equal → P Greater → P r
cases_order Less P l e g = l
cases_order Equal P l e g = e
cases_order Greater P l e g = g

all_with : (P : List ℕ → Type 0) (p : List ℕ) (qs : List (List ℕ)) → P p → AllByRecursion P qs → AllByRecursion P (with_path p qs)
all_with P p [] h a = (h, tt)
all_with P p (q ∷ qs) h a =
    cases_order (path_cmp q p) (λ r. AllByRecursion P (by_order r (q ∷ with_path p qs) (q ∷ qs) (p ∷ q ∷ qs))) (a.0, all_with P p qs h a.1) a (h, a)

all_above : (p q : List ℕ) (qs : List (List ℕ)) → path_cmp p q ≡ Less → AllByRecursion (λ y. path_cmp q y ≡ Less) qs → AllByRecursion (λ y. path_cmp p y ≡ Less) qs
all_above p q [] h a = tt
all_above p q (x ∷ qs) h a = (nat_list_cmp_total.trans p q x h a.0, all_above p q qs h a.1)

pub rising-with_path : (p : List ℕ) (qs : List (List ℕ)) → IsRising qs → IsRising (with_path p qs)
unfolding IsStrictlySortedBy
rising-with_path p [] s = (tt, tt)
rising-with_path p (q ∷ qs) s =
    elim (path_cmp q p) as (λ r. path_cmp q p ≡ r → IsRising (by_order r (q ∷ with_path p qs) (q ∷ qs) (p ∷ q ∷ qs))) [
      | Less ↦ λ e. (all_with (λ y. path_cmp q y ≡ Less) p qs e s.0, rising-with_path p qs s.1)
      | Equal ↦ λ e. s
      | Greater ↦ λ e. let below = turned p q Greater e in ((below, all_above p q qs below s.0), s)
    ] refl

pub rising-without_path : (p : List ℕ) (qs : List (List ℕ)) → IsRising qs → IsRising (without_path p qs)
rising-without_path p qs s = IsStrictlySortedBy-filter path_cmp (λ q. not (bytes_eq p q)) qs s

pub rising-none : IsRising []
unfolding IsStrictlySortedBy
rising-none = tt

-- ---- a path put in and taken out

none_listed_by : (p q : List ℕ) (qs : List (List ℕ)) (b : Bool) → bytes_eq p q ≡ b → (b || lists p qs) ≡ false → (lists p qs ≡ false → without_path p qs ≡ qs) → without_path p (q ∷ qs) ≡ q ∷ qs
none_listed_by p q qs true h e more = absurd (true≢false e)
none_listed_by p q qs false h e more = rw h (ap (λ rs. q ∷ rs) (more e))

none_listed : (p : List ℕ) (qs : List (List ℕ)) → lists p qs ≡ false → without_path p qs ≡ qs
none_listed p [] e = refl
none_listed p (q ∷ qs) e = none_listed_by p q qs (bytes_eq p q) refl e (none_listed p qs)

pub without_path-with_path : (p : List ℕ) (qs : List (List ℕ)) → lists p qs ≡ false → without_path p (with_path p qs) ≡ qs
without_path-with_path p [] e = rw (equal_is p p Equal (path_itself p)) refl
without_path-with_path p (q ∷ qs) e =
    elim (path_cmp q p) as (λ r. path_cmp q p ≡ r → without_path p (by_order r (q ∷ with_path p qs) (q ∷ qs) (p ∷ q ∷ qs)) ≡ q ∷ qs) [
      | Less ↦ λ o. let apart = equal_is p q Less o in rw apart (ap (λ rs. q ∷ rs) (without_path-with_path p qs (rw apart at e)))
      | Equal ↦ λ o. let same = equal_is p q Equal o in absurd (true≢false (rw same at e))
      | Greater ↦ λ o. let apart = equal_is p q Greater o in
          rw (equal_is p p Equal (path_itself p), apart) (ap (λ rs. q ∷ rs) (none_listed p qs (rw apart at e)))
    ] refl
