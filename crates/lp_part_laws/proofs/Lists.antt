-- Places in lists.
use Rattle.std.proofs.Common.{◌≡◌, ◌⊎◌, ℕ, zero, suc, arith, refl, ◌∙◌, ap, inl, inr, List, [], ◌∷◌, ◌++◌, map, length, Option, Some}
use Rattle.std.specs.Prelude.{◌+◌, ◌<◌, slice_get}

pub past : {A : Type 0} (xs ys : List A) (k : ℕ) → slice_get (xs ++ ys) (length xs + k) ≡ slice_get ys k
past [] ys k = let e : 0 + k ≡ k = omega arith in ap (slice_get ys) e
past (x ∷ xs) ys k = let e : suc (length xs) + k ≡ suc (length xs + k) = omega arith in ap (slice_get (x ∷ xs ++ ys)) e ∙ past xs ys k

pub within : {A : Type 0} (xs ys : List A) (k : ℕ) (x : A) → slice_get xs k ≡ Some x → slice_get (xs ++ ys) k ≡ Some x
within [] ys k x h = absurd cc
within (y ∷ xs) ys zero x h = h
within (y ∷ xs) ys (suc k) x h = within xs ys k x h

-- behind the front
pub record Behind {A : Type 0} (xs ys : List A) (k : ℕ) (x : A) : Type 0 where
  pub place : ℕ
  pub is : k ≡ length xs + place
  pub there : slice_get ys place ≡ Some x

pub parted : {A : Type 0} (xs ys : List A) (k : ℕ) (x : A) → slice_get (xs ++ ys) k ≡ Some x → (slice_get xs k ≡ Some x) ⊎ Behind xs ys k x
parted [] ys k x h = inr (record { place = k; is = let e : k ≡ 0 + k = omega arith in e; there = h })
parted (y ∷ xs) ys zero x h = inl h
parted (y ∷ xs) ys (suc k) x h = elim (parted xs ys k x h) [
  | inl e ↦ inl e
  | inr b ↦ inr (record { place = b.place; is = let i = b.is in let e : suc k ≡ suc (length xs) + b.place = omega (arith, i) in e; there = b.there })
]

pub get_map : {A B : Type 0} (f : A → B) (xs : List A) (k : ℕ) (x : A) → slice_get xs k ≡ Some x → slice_get (map f xs) k ≡ Some (f x)
get_map f [] k x h = absurd cc
get_map f (y ∷ xs) zero x h = let e : y ≡ x = cc in ap (λ z. Some (f z)) e
get_map f (y ∷ xs) (suc k) x h = get_map f xs k x h

-- what stands in a list of images
pub record Image {A B : Type 0} (f : A → B) (xs : List A) (k : ℕ) (y : B) : Type 0 where
  pub of : A
  pub there : slice_get xs k ≡ Some of
  pub is : f of ≡ y

pub got_map : {A B : Type 0} (f : A → B) (xs : List A) (k : ℕ) (y : B) → slice_get (map f xs) k ≡ Some y → Image f xs k y
got_map f [] k y h = absurd cc
got_map f (x ∷ xs) zero y h = record { of = x; there = refl; is = let e : f x ≡ y = cc in e }
got_map f (x ∷ xs) (suc k) y h = let i = got_map f xs k y h in record { of = i.of; there = i.there; is = i.is }

pub one_at : {A : Type 0} (x y : A) (k : ℕ) → slice_get (x ∷ []) k ≡ Some y → (x ≡ y) × (k ≡ 0)
one_at x y zero h = (let e : x ≡ y = cc in e, refl)
one_at x y (suc k) h = absurd cc

pub is_below : {A : Type 0} (xs : List A) (k : ℕ) (x : A) → slice_get xs k ≡ Some x → k < length xs
is_below [] k x h = absurd cc
is_below (y ∷ xs) zero x h = omega arith
is_below (y ∷ xs) (suc k) x h = let i = is_below xs k x h in omega (arith, i)

pub there_below : {A : Type 0} (xs : List A) (k : ℕ) → k < length xs → (x : A) × (slice_get xs k ≡ Some x)
there_below [] k h = absurd (omega (arith, h))
there_below (y ∷ xs) zero h = (y, refl)
there_below (y ∷ xs) (suc k) h = there_below xs k (omega (arith, h))

pub one_value : {A : Type 0} (o : Option A) (x y : A) → o ≡ Some x → o ≡ Some y → x ≡ y
one_value o x y a b = cc

-- some items stand in a list from a place on
abbrev pub Holds : {A : Type 0} → List A → ℕ → List A → Type 0
Holds {A} all at xs = (k : ℕ) (x : A) → slice_get xs k ≡ Some x → slice_get all (at + k) ≡ Some x

pub holds_all : {A : Type 0} (xs : List A) → Holds xs 0 xs
holds_all xs k x h = let e : 0 + k ≡ k = omega arith in ap (slice_get xs) e ∙ h

pub holds_within : {A : Type 0} (xs ys zs : List A) (at : ℕ) → Holds xs at zs → Holds (xs ++ ys) at zs
holds_within xs ys zs at h k x e = within xs ys (at + k) x (h k x e)

pub holds_past : {A : Type 0} (xs ys zs : List A) (at : ℕ) → Holds ys at zs → Holds (xs ++ ys) (length xs + at) zs
holds_past xs ys zs at h k x e = let d : (length xs + at) + k ≡ length xs + (at + k) = omega arith in ap (slice_get (xs ++ ys)) d ∙ past xs ys (at + k) ∙ h k x e

pub holds_front : {A : Type 0} (all : List A) (at : ℕ) (xs ys : List A) → Holds all at (xs ++ ys) → Holds all at xs
holds_front all at xs ys h k x e = h k x (within xs ys k x e)

pub holds_back : {A : Type 0} (all : List A) (at : ℕ) (xs ys : List A) → Holds all at (xs ++ ys) → Holds all (at + length xs) ys
holds_back all at xs ys h k x e = let d : (at + length xs) + k ≡ at + (length xs + k) = omega arith in ap (slice_get all) d ∙ h (length xs + k) x (past xs ys k ∙ e)
