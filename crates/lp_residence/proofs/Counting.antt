-- What is taken of the file, counted: how the extents of a list of rows change with one row.
use Rattle.std.proofs.Common.{◌≡◌, ◌∙◌, ℕ, zero, suc, ◌+◌, ◌<◌, ◌≤◌, ◌⊎◌, inl, inr, List, [], ◌∷◌, ◌++◌, Some, length, slice_get, unwrap_or, ap, sym, arith}
use Rattle.std.specs.Prelude.{if◌then◌else◌, nat_lt, slice_set}
use Rattle.std.specs.List.{flat_map}
use Rattle.std.proofs.lemmas.Bool.{cases_order}
use Rattle.lp_swapfile.specs.Room.{AreTaken, Room, after_take, covers, end_of, has_place, place_for}
use Rattle.lp_swapfile.specs.declared.extent.Extent.{Extent}
use Rattle.lp_swapfile.proofs.TakenLemmas.{taken-more}

module _ {A : Type 0} (f : A → List Extent) (count : List Extent → ℕ) (adds : (xs ys : List Extent) → count (xs ++ ys) ≡ count xs + count ys) where
  -- one row becomes another
  pub row_counts : (xs : List A) (n : ℕ) (x y : A) → slice_get xs n ≡ Some x → count (flat_map f (slice_set xs n y)) + count (f x) ≡ count (flat_map f xs) + count (f y)
  row_counts [] n x y e = cc
  row_counts (z ∷ xs) zero x y e =
      let s : count (f z) ≡ count (f x) = ap (λ o. count (f (unwrap_or o x))) e in
      let a = adds (f y) (flat_map f xs) in
      let b = adds (f z) (flat_map f xs) in
      omega (arith, s, a, b)
  row_counts (z ∷ xs) (suc n) x y e =
      let i = row_counts xs n x y e in
      let a = adds (f z) (flat_map f (slice_set xs n y)) in
      let b = adds (f z) (flat_map f xs) in
      omega (arith, i, a, b)

  -- a row counts no more than all
  pub row_within : (xs : List A) (n : ℕ) (x : A) → slice_get xs n ≡ Some x → count (f x) ≤ count (flat_map f xs)
  row_within [] n x e = cc
  row_within (z ∷ xs) zero x e =
      let s : count (f z) ≡ count (f x) = ap (λ o. count (f (unwrap_or o x))) e in
      let b = adds (f z) (flat_map f xs) in
      omega (arith, s, b)
  row_within (z ∷ xs) (suc n) x e =
      let i = row_within xs n x e in
      let b = adds (f z) (flat_map f xs) in
      omega (arith, i, b)

-- what is taken is told by counts
pub taken_by_counts : (es fs : List Extent) (r : Room) → length es ≡ length fs → ((i : ℕ) → covers i es ≡ covers i fs) → AreTaken es r → AreTaken fs r
taken_by_counts es fs r l c t = record {
  count = sym l ∙ t.count;
  parted = λ i. let u = t.parted i in let e = c i in omega (arith, u, e);
}

pub has_middle : (i : ℕ) (e : Extent) → e.place ≤ i → i < end_of e → has_place i e ≡ 1
has_middle i e a b = grind arith

one_at_most : (i n : ℕ) → (if nat_lt i n then 1 else 0) ≤ 1
one_at_most i n = grind arith

next_from : (len : ℕ) (es : List Extent) (r : Room) → AreTaken es r → (i : ℕ) → 0 < covers i es → place_for len r ≤ i → (i < place_for len r) ⊎ (place_for len r + len ≤ i)
next_from len es r t i some from = elim (cases_order i (place_for len r + len)) [
  | inl e ↦ inr (omega arith)
  | inr o ↦ elim o [
    | inl l ↦
        let u = (taken-more len es r t).parted i in
        let h = has_middle i (record { place = place_for len r; len = len }) from l in
        let b = one_at_most i (after_take len r).end in
        absurd (omega (arith, u, h, b, some))
    | inr g ↦ inr (omega arith)
  ]
]

-- no place of what is taken is where the next bytes go
pub next_is_apart : (len : ℕ) (es : List Extent) (r : Room) → AreTaken es r → (i : ℕ) → 0 < covers i es → (i < place_for len r) ⊎ (place_for len r + len ≤ i)
next_is_apart len es r t i some = elim (cases_order i (place_for len r)) [
  | inl e ↦ next_from len es r t i some (omega arith)
  | inr o ↦ elim o [
    | inl l ↦ inl l
    | inr g ↦ next_from len es r t i some (omega arith)
  ]
]
