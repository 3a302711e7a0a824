-- Lists that match in order, cells among cells, and places in lists.
use Rattle.std.proofs.Common.{◌≡◌, ℕ, zero, suc, ◌+◌, ◌<◌, Bool, true, false, cond, ◌||◌, ◌&&◌, List, [], ◌∷◌, ◌++◌, length, Some, None, refl, sym, ap, ◌∙◌, arith, length-append, not}
use Rattle.std.specs.Prelude.{filter, nat_eq, nat_lt, slice_get, slice_set}
use Rattle.std.specs.List.{position_or_len}
use Rattle.std.proofs.lemmas.Bool.{cond-true, cond-false, eq-eqb, eqb-true, le-ltb, lt-ltb}
use Rattle.std.proofs.lemmas.Map.Views.{any-filter_same}
use Rattle.lp_values.specs.declared.id.CellId.{CellId}
use Rattle.lp_save.specs.SaveText.{is_among, share_number}
use Rattle.lp_save_laws.specs.Matching.{InOrder}

-- ---- lists that match in order

module _ {A B : Type 0} where
  -- an item on the left, and what matches it
  pub in_order_at : (P : A → B → Type 0) (front back : List A) (x : A) (ys : List B) → InOrder P (front ++ x ∷ back) ys → (y : B) × (slice_get ys (length front) ≡ Some y) × P x y
  in_order_at P [] back x [] h = absurd h
  in_order_at P [] back x (y ∷ ys) h = (y, refl, h.0)
  in_order_at P (z ∷ front) back x [] h = absurd h
  in_order_at P (z ∷ front) back x (y ∷ ys) h = in_order_at P front back x ys h.1

  pub in_order_push : (P : A → B → Type 0) (xs : List A) (ys : List B) (x : A) (y : B) → InOrder P xs ys → P x y → InOrder P (xs ++ x ∷ []) (ys ++ y ∷ [])
  in_order_push P [] [] x y h p = (p, tt)
  in_order_push P [] (b ∷ ys) x y h p = absurd h
  in_order_push P (a ∷ xs) [] x y h p = absurd h
  in_order_push P (a ∷ xs) (b ∷ ys) x y h p = (h.0, in_order_push P xs ys x y h.1 p)

  pub in_order_length : (P : A → B → Type 0) (xs : List A) (ys : List B) → InOrder P xs ys → length xs ≡ length ys
  in_order_length P [] [] h = refl
  in_order_length P [] (b ∷ ys) h = absurd h
  in_order_length P (a ∷ xs) [] h = absurd h
  in_order_length P (a ∷ xs) (b ∷ ys) h = ap suc (in_order_length P xs ys h.1)

  pub in_order_weaker : (P Q : A → B → Type 0) → ((x : A) (y : B) → P x y → Q x y) → (xs : List A) (ys : List B) → InOrder P xs ys → InOrder Q xs ys
  in_order_weaker P Q f [] [] h = tt
  in_order_weaker P Q f [] (b ∷ ys) h = absurd h
  in_order_weaker P Q f (a ∷ xs) [] h = absurd h
  in_order_weaker P Q f (a ∷ xs) (b ∷ ys) h = (f a b h.0, in_order_weaker P Q f xs ys h.1)

-- ---- items at places

pub get_before : {A : Type 0} (xs ys : List A) (k : ℕ) → k < length xs → slice_get (xs ++ ys) k ≡ slice_get xs k
get_before [] ys k lt = absurd (omega arith)
get_before (x ∷ xs) ys zero lt = refl
get_before (x ∷ xs) ys (suc k) lt = get_before xs ys k (omega arith)

pub get_at : {A : Type 0} (xs : List A) (x : A) (ys : List A) → slice_get (xs ++ x ∷ ys) (length xs) ≡ Some x
get_at [] x ys = refl
get_at (z ∷ xs) x ys = get_at xs x ys

pub set_other : {A : Type 0} (xs : List A) (i j : ℕ) (a : A) → (i ≡ j → ⊥) → slice_get (slice_set xs i a) j ≡ slice_get xs j
set_other [] i j a unlike = refl
set_other (x ∷ xs) zero zero a unlike = absurd (unlike refl)
set_other (x ∷ xs) zero (suc j) a unlike = refl
set_other (x ∷ xs) (suc i) zero a unlike = refl
set_other (x ∷ xs) (suc i) (suc j) a unlike = set_other xs i j a (λ e. unlike (ap suc e))

pub set_same : {A : Type 0} (xs : List A) (i : ℕ) (a : A) → i < length xs → slice_get (slice_set xs i a) i ≡ Some a
set_same [] i a lt = absurd (omega arith)
set_same (x ∷ xs) zero a lt = refl
set_same (x ∷ xs) (suc i) a lt = set_same xs i a (omega arith)

-- ---- cells among cells

pub or_right : (a b : Bool) → b ≡ true → (a || b) ≡ true
or_right true b h = refl
or_right false b h = h

or_none : (a b : Bool) → (a || b) ≡ false → (a ≡ false) × (b ≡ false)
or_none true true h = (h, h)
or_none true false h = (h, refl)
or_none false b h = (refl, h)

cell_is : (c d : CellId) → nat_eq c.0 d.0 ≡ true → c ≡ d
cell_is c d h = ap (λ n. record { 0 = n }) (eqb-true c.0 d.0 h)

-- a cell among others, at its first place
pub record Split (c : CellId) (xs : List CellId) : Type 0 where
  pub front : List CellId
  pub back : List CellId
  pub is : xs ≡ front ++ c ∷ back
  pub other : is_among c front ≡ false

split_by : (c x : CellId) (xs : List CellId) (b : Bool) → nat_eq x.0 c.0 ≡ b → is_among c (x ∷ xs) ≡ true → (is_among c xs ≡ true → Split c xs) → Split c (x ∷ xs)
split_by c x xs true e h more = record { front = []; back = xs; is = ap (λ z. z ∷ xs) (cell_is x c e); other = refl }
split_by c x xs false e h more =
    let s : Split c xs = more (ap (λ b. b || is_among c xs) (sym e) ∙ h) in
    record { front = x ∷ s.front; back = s.back; is = ap (λ z. x ∷ z) s.is; other = ap (λ b. b || is_among c s.front) e ∙ s.other }

pub split_among : (c : CellId) (xs : List CellId) → is_among c xs ≡ true → Split c xs
split_among c [] h = cc
split_among c (x ∷ xs) h = split_by c x xs (nat_eq x.0 c.0) refl h (split_among c xs)

-- the number of a cell that has a first place, and none of another
first_place : (c : CellId) (front back : List CellId) → is_among c front ≡ false → position_or_len (λ d. nat_eq d.0 c.0) (front ++ c ∷ back) ≡ length front
first_place c [] back h = cond-false (not (nat_eq c.0 c.0)) (1 + position_or_len (λ d. nat_eq d.0 c.0) back) 0 (ap not (eq-eqb c.0 c.0 refl))
first_place c (x ∷ front) back h =
    let k = or_none (nat_eq x.0 c.0) (is_among c front) h in
    let e = first_place c front back k.1 in
    cond-true (not (nat_eq x.0 c.0)) (1 + position_or_len (λ d. nat_eq d.0 c.0) (front ++ c ∷ back)) 0 (ap not k.0) ∙ omega (arith, e)

pub number_at : (c : CellId) (front back : List CellId) → is_among c front ≡ false → share_number (front ++ c ∷ back) c ≡ Some (length front)
number_at c front back h =
    let all : List CellId = front ++ c ∷ back in
    let long : length all ≡ length front + length (c ∷ back) = length-append front (c ∷ back) in
    ap (λ n. cond (nat_lt n (length all)) (Some n) None) (first_place c front back h) ∙ cond-true (nat_lt (length front) (length all)) (Some (length front)) None (lt-ltb (length front) (length all) (omega arith))

no_place : (c : CellId) (xs : List CellId) → is_among c xs ≡ false → position_or_len (λ d. nat_eq d.0 c.0) xs ≡ length xs
no_place c [] h = refl
no_place c (x ∷ xs) h =
    let k = or_none (nat_eq x.0 c.0) (is_among c xs) h in
    let e = no_place c xs k.1 in
    cond-true (not (nat_eq x.0 c.0)) (1 + position_or_len (λ d. nat_eq d.0 c.0) xs) 0 (ap not k.0) ∙ omega (arith, e)

pub no_number : (c : CellId) (xs : List CellId) → is_among c xs ≡ false → share_number xs c ≡ None
no_number c xs h =
    ap (λ n. cond (nat_lt n (length xs)) (Some n) None) (no_place c xs h) ∙ cond-false (nat_lt (length xs) (length xs)) (Some (length xs)) None (le-ltb (length xs) (length xs) (omega arith))

-- the cells that are among these
abbrev pub kept : List CellId → List CellId → List CellId
kept again xs = filter (λ c. is_among c again) xs

pub among_kept : (again : List CellId) (c : CellId) (xs : List CellId) → is_among c (kept again xs) ≡ (is_among c again && is_among c xs)
among_kept again c xs = any-filter_same (λ d. nat_eq d.0 c.0) (λ d. is_among d again) (is_among c again) (λ d h. ap (λ e. is_among e again) (cell_is d c h)) xs
