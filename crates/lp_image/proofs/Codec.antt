-- What reads a part reads just what it was written as, and reads all that is written so.
use Rattle.std.proofs.Common.{◌≡◌, ℕ, zero, suc, ◌+◌, ◌^◌, ◌<◌, ◌≤◌, Bool, true, false, cond, ltb, List, [], ◌∷◌, ◌++◌, length, get_or, take, drop, Option, Some, None, refl, sym, ap, subst, ◌∙◌, append_assoc, arith, inl, inr}
use Rattle.std.specs.List.{flat_map, AllByRecursion}
use Rattle.std.specs.Int.{Width, w32, w64, byte_len, from_le_bytes, to_le_bytes}
use Rattle.std.proofs.lemmas.Bool.{cases_lt, ltb-false, le-ltb}
use Rattle.std.proofs.lemmas.List.{take_at, drop_at, take-append-drop, length-append, length-take, get_or-drop, get_or-take, get_or_past}
use Rattle.std.proofs.lemmas.List.Concat.{flat_map-cons}
use Rattle.std.proofs.lemmas.Nat.{le_bytes_4, le_bytes_8, from_le_bytes-to_le_bytes_4, from_le_bytes-to_le_bytes_8}
use Rattle.lp_image.specs.Image.{list_image, IsListOf}
use Rattle.lp_image.specs.Reading.{◌>>=◌, Reader, number_at, many_at, list_at}

abbrev pub IsBytes : List ℕ → Type 0
IsBytes bytes = (i : ℕ) → get_or bytes i 0 < 256

pub IsBytes-drop : (n : ℕ) (bytes : List ℕ) → IsBytes bytes → IsBytes (drop n bytes)
IsBytes-drop n bytes h i = rw get_or-drop (h (n + i))

pub IsBytes-take : (n : ℕ) (bytes : List ℕ) → IsBytes bytes → IsBytes (take n bytes)
IsBytes-take n bytes h i =
    elim (cases_lt i n) [
      | inl lt ↦ rw (get_or-take n bytes i 0 lt) (h i)
      | inr le ↦ rw (get_or_past (take n bytes) i 0 (omega (arith, length-take n bytes))) (omega arith)
    ]

pub IsBytes-rest : (b : ℕ) (bytes : List ℕ) → IsBytes (b ∷ bytes) → IsBytes bytes
IsBytes-rest b bytes h i = h (suc i)

-- the value of a step that did not fail
pub bind_some : {A B : Type 0} (r : Option A) (f : A → Option B) (y : B) → (r >>= f) ≡ Some y → (x : A) × (r ≡ Some x) × (f x ≡ Some y)
bind_some (Some x) f y e = (x, refl, e)
bind_some None f y e = absurd cc

-- a test that did not fail
pub guard_some : {A : Type 0} (b : Bool) (x y : A) → cond b None (Some x) ≡ Some y → (b ≡ false) × (x ≡ y)
guard_some true x y e = absurd cc
guard_some false x y e = (refl, cc)

-- one that is to hold
pub held_some : {A : Type 0} (b : Bool) (r : Option A) (y : A) → cond b r None ≡ Some y → (b ≡ true) × (r ≡ Some y)
held_some true r y e = (refl, e)
held_some false r y e = absurd cc

abbrev done : {A : Type 0} → A → Option A
done x = Some x

pub some_is : {A : Type 0} (x y : A) → done x ≡ done y → x ≡ y
some_is x y e = cc

-- what a reader took from the front
pub record Takes (bytes text rest : List ℕ) : Type 0 where
  pub parts : bytes ≡ text ++ rest
  pub rest_fits : IsBytes rest

pub Takes-then : (a x b y c : List ℕ) → Takes a x b → Takes b y c → Takes a (x ++ y) c
Takes-then a x b y c p q = record { parts = p.parts ∙ ap (λ (t : List ℕ). x ++ t) q.parts ∙ sym (append_assoc x y c); rest_fits = q.rest_fits }

-- a reader and the image of what it reads
pub record IsCodec {A : Type 0} (image : A → List ℕ) (Is : A → Type 0) (read : Reader A) : Type 0 where
  pub takes : (bytes : List ℕ) (x : A × List ℕ) → IsBytes bytes → read bytes ≡ Some x → Takes bytes (image x.0) x.1 × Is x.0
  pub again : (a : A) (rest : List ℕ) → Is a → read (image a ++ rest) ≡ Some (a, rest)

-- ---- numbers

pub record IsWide (w : Width) (limit : ℕ) : Type 0 where
  pub len : (n : ℕ) → length (to_le_bytes w n) ≡ byte_len w
  pub back : (bytes : List ℕ) → length bytes ≡ byte_len w → IsBytes bytes → to_le_bytes w (from_le_bytes w bytes) ≡ bytes
  pub once_more : (n : ℕ) → n < limit → from_le_bytes w (to_le_bytes w n) ≡ n
  pub below : (bytes : List ℕ) → IsBytes bytes → from_le_bytes w bytes < limit

wide32 : IsWide w32 (2 ^ 32)
wide32 = record {
  len = λ n. refl;
  back = λ bytes len fits. le_bytes_4 bytes _ len fits refl;
  once_more = λ n lt. from_le_bytes-to_le_bytes_4 n lt;
  below = λ bytes fits. omega (arith, fits 0, fits 1, fits 2, fits 3);
}

wide64 : IsWide w64 (2 ^ 64)
wide64 = record {
  len = λ n. refl;
  back = λ bytes len fits. le_bytes_8 bytes _ len fits refl;
  once_more = λ n lt. from_le_bytes-to_le_bytes_8 n lt;
  below = λ bytes fits. omega (arith, fits 0, fits 1, fits 2, fits 3, fits 4, fits 5, fits 6, fits 7);
}

number_takes : (w : Width) (limit : ℕ) (wide : IsWide w limit) (bytes : List ℕ) (x : ℕ × List ℕ) → IsBytes bytes → number_at w bytes ≡ Some x → Takes bytes (to_le_bytes w x.0) x.1 × (x.0 < limit)
number_takes w limit wide bytes x fits e =
    let g = guard_some (ltb (length bytes) (byte_len w)) (from_le_bytes w (take (byte_len w) bytes), drop (byte_len w) bytes) x e in
    let long : byte_len w ≤ length bytes = ltb-false _ _ g.0 in
    let n-is : from_le_bytes w (take (byte_len w) bytes) ≡ x.0 = ap (λ (p : ℕ × List ℕ). p.0) g.1 in
    let rest-is : drop (byte_len w) bytes ≡ x.1 = ap (λ (p : ℕ × List ℕ). p.1) g.1 in
    let front : to_le_bytes w x.0 ≡ take (byte_len w) bytes = rw (← n-is) (wide.back (take (byte_len w) bytes) (omega (arith, length-take (byte_len w) bytes)) (IsBytes-take (byte_len w) bytes fits)) in
    (record { parts = rw (front, ← rest-is) (sym (take-append-drop (byte_len w) bytes)); rest_fits = rw (← rest-is) (IsBytes-drop (byte_len w) bytes fits) }, rw (← n-is) (wide.below (take (byte_len w) bytes) (IsBytes-take (byte_len w) bytes fits)))

number_again : (w : Width) (limit : ℕ) (wide : IsWide w limit) (n : ℕ) (rest : List ℕ) → n < limit → number_at w (to_le_bytes w n ++ rest) ≡ Some (n, rest)
number_again w limit wide n rest lt =
    let len = wide.len n in
    let long : ltb (length (to_le_bytes w n ++ rest)) (byte_len w) ≡ false = le-ltb _ _ (omega (arith, length-append (to_le_bytes w n) rest)) in
    rw (long, take_at (to_le_bytes w n) rest (byte_len w) len, drop_at (to_le_bytes w n) rest (byte_len w) len, wide.once_more n lt) refl

pub number_codec : (w : Width) (limit : ℕ) → IsWide w limit → IsCodec (to_le_bytes w) (λ n. n < limit) (number_at w)
number_codec w limit wide = record { takes = number_takes w limit wide; again = number_again w limit wide }

pub four_codec : IsCodec (to_le_bytes w32) (λ n. n < 2 ^ 32) (number_at w32)
four_codec = number_codec w32 (2 ^ 32) wide32

pub eight_codec : IsCodec (to_le_bytes w64) (λ n. n < 2 ^ 64) (number_at w64)
eight_codec = number_codec w64 (2 ^ 64) wide64

-- ---- lists

module _ {A : Type 0} (image : A → List ℕ) (Is : A → Type 0) (read : Reader A) (codec : IsCodec image Is read) where
  many_take : (n : ℕ) (bytes : List ℕ) (x : List A × List ℕ) → IsBytes bytes → many_at read n bytes ≡ Some x → Takes bytes (flat_map image x.0) x.1 × (length x.0 ≡ n) × AllByRecursion Is x.0
  unfolding many_at
  many_take zero bytes x fits e =
      subst (λ (y : List A × List ℕ). Takes bytes (flat_map image y.0) y.1 × (length y.0 ≡ 0) × AllByRecursion Is y.0) (some_is ([], bytes) x e) (record { parts = refl; rest_fits = fits }, refl, tt)
  many_take (suc n) bytes x fits e =
      let a = bind_some (read bytes) (λ first. many_at read n first.1 >>= λ others. Some (first.0 ∷ others.0, others.1)) x e in
      let b = bind_some (many_at read n a.0.1) (λ others. Some (a.0.0 ∷ others.0, others.1)) x a.2 in
      let first = codec.takes bytes a.0 fits a.1 in
      let second = many_take n a.0.1 b.0 first.0.rest_fits b.1 in
      let both = Takes-then bytes (image a.0.0) a.0.1 (flat_map image b.0.0) b.0.1 first.0 second.0 in
      let made : List A × List ℕ = (a.0.0 ∷ b.0.0, b.0.1) in
      subst (λ (y : List A × List ℕ). Takes bytes (flat_map image y.0) y.1 × (length y.0 ≡ suc n) × AllByRecursion Is y.0) (some_is made x b.2) (rw flat_map-cons both, ap suc second.1, (first.1, second.2))

  many_again : (xs : List A) (rest : List ℕ) → AllByRecursion Is xs → many_at read (length xs) (flat_map image xs ++ rest) ≡ Some (xs, rest)
  unfolding many_at
  many_again [] rest fits = refl
  many_again (x ∷ xs) rest fits =
      let regrouped : flat_map image (x ∷ xs) ++ rest ≡ image x ++ (flat_map image xs ++ rest) = ap (λ (y : List ℕ). y ++ rest) (flat_map-cons image x xs) ∙ append_assoc (image x) (flat_map image xs) rest in
      ap (many_at read (suc (length xs))) regrouped ∙ rw (codec.again x (flat_map image xs ++ rest) fits.0, many_again xs rest fits.1) refl

  list_takes : (bytes : List ℕ) (x : List A × List ℕ) → IsBytes bytes → list_at read bytes ≡ Some x → Takes bytes (list_image image x.0) x.1 × IsListOf Is x.0
  unfolding list_at
  list_takes bytes x fits e =
      let a = bind_some (number_at w32 bytes) (λ n. many_at read n.0 n.1) x e in
      let first = four_codec.takes bytes a.0 fits a.1 in
      let second = many_take a.0.0 a.0.1 x first.0.rest_fits a.2 in
      let both = Takes-then bytes (to_le_bytes w32 a.0.0) a.0.1 (flat_map image x.0) x.1 first.0 second.0 in
      (subst (λ (k : ℕ). Takes bytes (to_le_bytes w32 k ++ flat_map image x.0) x.1) (sym second.1) both, (subst (λ (k : ℕ). k < 2 ^ 32) (sym second.1) first.1, second.2))

  list_again : (xs : List A) (rest : List ℕ) → IsListOf Is xs → list_at read (list_image image xs ++ rest) ≡ Some (xs, rest)
  unfolding list_at
  list_again xs rest fits =
      ap (λ r. r >>= λ n. many_at read n.0 n.1) (four_codec.again (length xs) (flat_map image xs ++ rest) fits.0) ∙ many_again xs rest fits.1

  pub list_codec : IsCodec (list_image image) (IsListOf Is) (list_at read)
  list_codec = record { takes = list_takes; again = list_again }
