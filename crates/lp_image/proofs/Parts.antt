-- Values, pairs and cells are read as they are written.
use Rattle.std.proofs.Common.{◌≡◌, ℕ, ◌^◌, ◌<◌, ◌≤◌, Bool, true, false, cond, eqb, ltb, List, [], ◌∷◌, ◌++◌, length, take, drop, Option, Some, None, refl, sym, ap, subst, ◌∙◌, append_assoc, arith, inl, inr}
use Rattle.std.specs.Prelude.{chars, encode_utf8_all}
use Rattle.std.specs.Str.{IsUtf8, is_utf8, all_scalars}
use Rattle.std.specs.Int.{w32, w64, to_le_bytes, cast_signed, cast_unsigned}
use Rattle.std.proofs.Math.Facts.{sfits_to_z}
use Rattle.std.proofs.lemmas.Int.{to_z-of_z, of_z-to_z}
use Rattle.std.proofs.Math.Facts.{Fits-of_z, Fits-of_lt, Fits-lt-pow}
use Rattle.std.proofs.lemmas.Bool.{cases_Bool, eqb-true, ltb-false, le-ltb}
use Rattle.std.proofs.lemmas.List.{take_at, drop_at, take-append-drop, length-append, length-take}
use Rattle.std.proofs.lemmas.Str.{IsUtf8-from_is_utf8, is_utf8-from_IsUtf8, chars-encodes, encodes-chars, scalars-chars, encodes_same}
use Rattle.lp_image.specs.declared.record.Packed.{Packed}
use Rattle.lp_image.specs.declared.record.Packed.TheVariants.{Int, Str, Arr, Map, Obj, OwnArr, OwnMap}
use Rattle.lp_image.specs.declared.record.PackedCell.{PackedCell}
use Rattle.lp_image.specs.declared.record.PackedCell.TheVariants.{Array, Mapping}
use Rattle.lp_image.specs.Image.{text_image, value_image, pair_image, cell_image, list_image, IsValue, IsPair, IsCell, IsListOf}
use Rattle.lp_image.specs.Reading.{◌>>=◌, Reader, as_read, number_at, spelled, text_at, value_behind, value_at, pair_at, list_at, cell_behind, cell_at}
use Rattle.lp_image.proofs.Codec.{IsBytes, IsBytes-drop, IsBytes-rest, bind_some, held_some, some_is, Takes, Takes-then, IsCodec, four_codec, eight_codec, list_codec}

-- ---- texts

pub spelled_text : (bytes text t : List ℕ) → text ≡ bytes → IsUtf8 bytes → t ≡ chars text → spelled bytes ≡ Some t
spelled_text bytes text t e u is = rw (is_utf8-from_IsUtf8 bytes u) (ap (λ x. Some x) (ap chars (sym e) ∙ sym is))

pub spelled_none : (bytes : List ℕ) → (IsUtf8 bytes → ⊥) → spelled bytes ≡ None
spelled_none bytes bad = elim (cases_Bool (is_utf8 bytes)) [ inl y ↦ absurd (bad (IsUtf8-from_is_utf8 bytes y)) | inr n ↦ rw n refl ]

pub valid_text : (t bytes : List ℕ) → IsUtf8 bytes → bytes ≡ encode_utf8_all t → all_scalars t ≡ true
valid_text t bytes u e =
    let same : chars bytes ≡ t = encodes_same (chars bytes) t (encodes-chars bytes u ∙ e) in
    rw (← same) (scalars-chars bytes u)

abbrev IsText : List ℕ → Type 0
IsText t = (all_scalars t ≡ true) × (length (encode_utf8_all t) < 2 ^ 32)

spelled_takes : (bytes t : List ℕ) → spelled bytes ≡ Some t → (encode_utf8_all t ≡ bytes) × (all_scalars t ≡ true)
spelled_takes bytes t e =
    let h = held_some (is_utf8 bytes) (Some (chars bytes)) t e in
    let u = IsUtf8-from_is_utf8 bytes h.0 in
    let same : chars bytes ≡ t = some_is (chars bytes) t h.1 in
    rw (← same) (encodes-chars bytes u, scalars-chars bytes u)

spelled_again : (t : List ℕ) → all_scalars t ≡ true → spelled (encode_utf8_all t) ≡ Some t
spelled_again t s = spelled_text (encode_utf8_all t) (encode_utf8_all t) t refl (t, (s, refl)) (sym (chars-encodes t s))

text_takes : (bytes : List ℕ) (x : List ℕ × List ℕ) → IsBytes bytes → text_at bytes ≡ Some x → Takes bytes (text_image (encode_utf8_all x.0)) x.1 × IsText x.0
unfolding text_at
text_takes bytes x fits e =
    let b = bind_some (number_at w32 bytes) (λ n. cond (ltb (length n.1) n.0) None (spelled (take n.0 n.1) >>= λ t. Some (t, drop n.0 n.1))) x e in
    let n = b.0 in
    let t = four_codec.takes bytes n fits b.1 in
    let g = kept (ltb (length n.1) n.0) (spelled (take n.0 n.1) >>= λ t. Some (t, drop n.0 n.1)) x b.2 in
    let long : n.0 ≤ length n.1 = ltb-false _ _ g.0 in
    let len : length (take n.0 n.1) ≡ n.0 = omega (arith, length-take n.0 n.1) in
    let s = bind_some (spelled (take n.0 n.1)) (λ t. Some (t, drop n.0 n.1)) x g.1 in
    let text = spelled_takes (take n.0 n.1) s.0 s.1 in
    let second : Takes n.1 (take n.0 n.1) (drop n.0 n.1) = record { parts = sym (take-append-drop n.0 n.1); rest_fits = IsBytes-drop n.0 n.1 t.0.rest_fits } in
    let both = Takes-then bytes (to_le_bytes w32 n.0) n.1 (take n.0 n.1) (drop n.0 n.1) t.0 second in
    let whole : Takes bytes (text_image (take n.0 n.1)) (drop n.0 n.1) = subst (λ (k : ℕ). Takes bytes (to_le_bytes w32 k ++ take n.0 n.1) (drop n.0 n.1)) (sym len) both in
    let spelling : Takes bytes (text_image (encode_utf8_all s.0)) (drop n.0 n.1) = subst (λ (k : List ℕ). Takes bytes (text_image k) (drop n.0 n.1)) (sym text.0) whole in
    let short : length (encode_utf8_all s.0) < 2 ^ 32 = subst (λ (k : List ℕ). length k < 2 ^ 32) (sym text.0) (subst (λ (k : ℕ). k < 2 ^ 32) (sym len) t.1) in
    subst (λ (p : List ℕ × List ℕ). Takes bytes (text_image (encode_utf8_all p.0)) p.1 × IsText p.0) (some_is (s.0, drop n.0 n.1) x s.2) (spelling, (text.1, short))
  where
    kept : {A : Type 0} (b : Bool) (r : Option A) (y : A) → cond b None r ≡ Some y → (b ≡ false) × (r ≡ Some y)
    kept true r y e = absurd cc
    kept false r y e = (refl, e)

text_again : (t rest : List ℕ) → IsText t → text_at (text_image (encode_utf8_all t) ++ rest) ≡ Some (t, rest)
unfolding text_at
text_again t rest is =
    let bytes : List ℕ = encode_utf8_all t in
    let long : ltb (length (bytes ++ rest)) (length bytes) ≡ false = le-ltb _ _ (omega (arith, length-append bytes rest)) in
    ap (λ r. r >>= λ n. cond (ltb (length n.1) n.0) None (spelled (take n.0 n.1) >>= λ t. Some (t, drop n.0 n.1))) (four_codec.again (length bytes) (bytes ++ rest) is.1)
    ∙ rw (long, take_at bytes rest (length bytes) refl, drop_at bytes rest (length bytes) refl, spelled_again t is.0) refl

text_codec : IsCodec (λ t. text_image (encode_utf8_all t)) IsText text_at
text_codec = record { takes = text_takes; again = text_again }

-- ---- what follows a tag

-- a part read behind a tag, as a larger one
module _ {A B : Type 0} (image : A → List ℕ) (Is : A → Type 0) (read : Reader A) (codec : IsCodec image Is read) where
  tagged : (whole : B → List ℕ) (All : B → Type 0) (f : A → B) (tag : ℕ) → ((a : A) → Is a → whole (f a) ≡ tag ∷ image a) → ((a : A) → Is a → All (f a))
      → (bytes : List ℕ) (x : B × List ℕ) → IsBytes bytes → as_read f (read bytes) ≡ Some x → Takes (tag ∷ bytes) (whole x.0) x.1 × All x.0
  tagged whole All f tag image-is is bytes x fits e =
      let a = bind_some (read bytes) (λ y. Some (f y.0, y.1)) x e in
      let t = codec.takes bytes a.0 fits a.1 in
      subst (λ (y : B × List ℕ). Takes (tag ∷ bytes) (whole y.0) y.1 × All y.0) (some_is (f a.0.0, a.0.1) x a.2)
      (record { parts = ap (λ y. tag ∷ y) t.0.parts ∙ ap (λ y. y ++ a.0.1) (sym (image-is a.0.0 t.1)); rest_fits = t.0.rest_fits }, is a.0.0 t.1)

-- ---- integers

unsigned : (n : ℕ) → n < 2 ^ 64 → cast_unsigned w64 (cast_signed w64 n) ≡ n
unsigned n lt = of_z-to_z w64 n lt

-- ---- values

value_takes : (tag : ℕ) (bytes : List ℕ) (x : Packed × List ℕ) → IsBytes bytes → value_behind tag bytes ≡ Some x → Takes (tag ∷ bytes) (value_image x.0) x.1 × IsValue x.0
unfolding value_behind
value_takes tag bytes x fits e =
    elim (cases_Bool (eqb tag 0)) [
      | inl y ↦ rw (eqb-true _ _ y) (tagged (to_le_bytes w64) (λ n. n < 2 ^ 64) (number_at w64) eight_codec value_image IsValue (λ n. Int (cast_signed w64 n)) 0 (λ n lt. ap (λ m. 0 ∷ to_le_bytes w64 m) (unsigned n lt)) (λ n lt. sfits_to_z {w = w64} {n = n} (Fits-of_lt {w = w64} {n = n} lt)) bytes x fits (rw y at e))
      | inr n0 ↦ elim (cases_Bool (eqb tag 1)) [
        | inl y ↦ rw (eqb-true _ _ y) (tagged (λ t. text_image (encode_utf8_all t)) IsText text_at text_codec value_image IsValue (λ t. Str t) 1 (λ t is. refl) (λ t is. is) bytes x fits (rw (n0, y) at e))
        | inr n1 ↦ elim (cases_Bool (eqb tag 2)) [
          | inl y ↦ rw (eqb-true _ _ y) (tagged (to_le_bytes w64) (λ n. n < 2 ^ 64) (number_at w64) eight_codec value_image IsValue (λ n. Arr (record { 0 = n })) 2 (λ n lt. refl) (λ n lt. lt) bytes x fits (rw (n0, n1, y) at e))
          | inr n2 ↦ elim (cases_Bool (eqb tag 3)) [
            | inl y ↦ rw (eqb-true _ _ y) (tagged (to_le_bytes w64) (λ n. n < 2 ^ 64) (number_at w64) eight_codec value_image IsValue (λ n. Map (record { 0 = n })) 3 (λ n lt. refl) (λ n lt. lt) bytes x fits (rw (n0, n1, n2, y) at e))
            | inr n3 ↦ elim (cases_Bool (eqb tag 4)) [
              | inl y ↦ rw (eqb-true _ _ y) (tagged (to_le_bytes w64) (λ n. n < 2 ^ 64) (number_at w64) eight_codec value_image IsValue (λ n. Obj (record { 0 = n })) 4 (λ n lt. refl) (λ n lt. lt) bytes x fits (rw (n0, n1, n2, n3, y) at e))
              | inr n4 ↦ elim (cases_Bool (eqb tag 5)) [
                | inl y ↦ rw (eqb-true _ _ y) (tagged (to_le_bytes w32) (λ n. n < 2 ^ 32) (number_at w32) four_codec value_image IsValue (λ n. OwnArr n) 5 (λ n lt. refl) (λ n lt. lt) bytes x fits (rw (n0, n1, n2, n3, n4, y) at e))
                | inr n5 ↦ elim (cases_Bool (eqb tag 6)) [
                  | inl y ↦ rw (eqb-true _ _ y) (tagged (to_le_bytes w32) (λ n. n < 2 ^ 32) (number_at w32) four_codec value_image IsValue (λ n. OwnMap n) 6 (λ n lt. refl) (λ n lt. lt) bytes x fits (rw (n0, n1, n2, n3, n4, n5, y) at e))
                  | inr n6 ↦ let no : None ≡ Some x = rw (n0, n1, n2, n3, n4, n5, n6) at e in absurd cc
                ]
              ]
            ]
          ]
        ]
      ]
    ]

value_at_takes : (bytes : List ℕ) (x : Packed × List ℕ) → IsBytes bytes → value_at bytes ≡ Some x → Takes bytes (value_image x.0) x.1 × IsValue x.0
unfolding value_at
value_at_takes [] x fits e = absurd cc
value_at_takes (tag ∷ bytes) x fits e = value_takes tag bytes x (IsBytes-rest tag bytes fits) e

value_again : (v : Packed) (rest : List ℕ) → IsValue v → value_at (value_image v ++ rest) ≡ Some (v, rest)
unfolding value_at value_behind
value_again (Int n) rest is = ap (as_read (λ m. Int (cast_signed w64 m))) (eight_codec.again (cast_unsigned w64 n) rest (Fits-lt-pow {w = w64} {n = cast_unsigned w64 n} (Fits-of_z {w = w64} {z = n} is))) ∙ ap (λ m. Some (Int m, rest)) (to_z-of_z w64 n is)
value_again (Str t) rest is = ap (as_read (λ t. Str t)) (text_codec.again t rest is)
value_again (Arr c) rest is = ap (as_read (λ n. Arr (record { 0 = n }))) (eight_codec.again c.0 rest is)
value_again (Map c) rest is = ap (as_read (λ n. Map (record { 0 = n }))) (eight_codec.again c.0 rest is)
value_again (Obj o) rest is = ap (as_read (λ n. Obj (record { 0 = n }))) (eight_codec.again o.0 rest is)
value_again (OwnArr n) rest is = ap (as_read OwnArr) (four_codec.again n rest is)
value_again (OwnMap n) rest is = ap (as_read OwnMap) (four_codec.again n rest is)

pub value_codec : IsCodec value_image IsValue value_at
value_codec = record { takes = value_at_takes; again = value_again }

-- ---- pairs

pair_takes : (bytes : List ℕ) (x : (Packed × Packed) × List ℕ) → IsBytes bytes → pair_at bytes ≡ Some x → Takes bytes (pair_image x.0) x.1 × IsPair x.0
unfolding pair_at
pair_takes bytes x fits e =
    let a = bind_some (value_at bytes) (λ k. value_at k.1 >>= λ v. Some ((k.0, v.0), v.1)) x e in
    let b = bind_some (value_at a.0.1) (λ v. Some ((a.0.0, v.0), v.1)) x a.2 in
    let first = value_at_takes bytes a.0 fits a.1 in
    let second = value_at_takes a.0.1 b.0 first.0.rest_fits b.1 in
    let both = Takes-then bytes (value_image a.0.0) a.0.1 (value_image b.0.0) b.0.1 first.0 second.0 in
    let made : (Packed × Packed) × List ℕ = ((a.0.0, b.0.0), b.0.1) in
    subst (λ (y : (Packed × Packed) × List ℕ). Takes bytes (pair_image y.0) y.1 × IsPair y.0) (some_is made x b.2) (both, (first.1, second.1))

pair_again : (p : Packed × Packed) (rest : List ℕ) → IsPair p → pair_at (pair_image p ++ rest) ≡ Some (p, rest)
unfolding pair_at
pair_again p rest is =
    ap pair_at (append_assoc (value_image p.0) (value_image p.1) rest)
    ∙ ap (λ r. r >>= λ k. value_at k.1 >>= λ v. Some ((k.0, v.0), v.1)) (value_again p.0 (value_image p.1 ++ rest) is.0)
    ∙ ap (λ r. r >>= λ v. Some ((p.0, v.0), v.1)) (value_again p.1 rest is.1)

pub pair_codec : IsCodec pair_image IsPair pair_at
pair_codec = record { takes = pair_takes; again = pair_again }

-- ---- cells

values_codec : IsCodec (list_image value_image) (IsListOf IsValue) (list_at value_at)
values_codec = list_codec value_image IsValue value_at value_codec

pairs_codec : IsCodec (list_image pair_image) (IsListOf IsPair) (list_at pair_at)
pairs_codec = list_codec pair_image IsPair pair_at pair_codec

cell_takes : (tag : ℕ) (bytes : List ℕ) (x : PackedCell × List ℕ) → IsBytes bytes → cell_behind tag bytes ≡ Some x → Takes (tag ∷ bytes) (cell_image x.0) x.1 × IsCell x.0
unfolding cell_behind
cell_takes tag bytes x fits e =
    elim (cases_Bool (eqb tag 0)) [
      | inl y ↦ rw (eqb-true _ _ y) (tagged (list_image value_image) (IsListOf IsValue) (list_at value_at) values_codec cell_image IsCell (λ vs. Array vs) 0 (λ vs is. refl) (λ vs is. is) bytes x fits (rw y at e))
      | inr n0 ↦ elim (cases_Bool (eqb tag 1)) [
        | inl y ↦ rw (eqb-true _ _ y) (tagged (list_image pair_image) (IsListOf IsPair) (list_at pair_at) pairs_codec cell_image IsCell (λ ps. Mapping ps) 1 (λ ps is. refl) (λ ps is. is) bytes x fits (rw (n0, y) at e))
        | inr n1 ↦ let no : None ≡ Some x = rw (n0, n1) at e in absurd cc
      ]
    ]

cell_at_takes : (bytes : List ℕ) (x : PackedCell × List ℕ) → IsBytes bytes → cell_at bytes ≡ Some x → Takes bytes (cell_image x.0) x.1 × IsCell x.0
unfolding cell_at
cell_at_takes [] x fits e = absurd cc
cell_at_takes (tag ∷ bytes) x fits e = cell_takes tag bytes x (IsBytes-rest tag bytes fits) e

cell_again : (c : PackedCell) (rest : List ℕ) → IsCell c → cell_at (cell_image c ++ rest) ≡ Some (c, rest)
unfolding cell_at cell_behind
cell_again (Array vs) rest is = ap (as_read (λ vs. Array vs)) (values_codec.again vs rest is)
cell_again (Mapping ps) rest is = ap (as_read (λ ps. Mapping ps)) (pairs_codec.again ps rest is)

pub cell_codec : IsCodec cell_image IsCell cell_at
cell_codec = record { takes = cell_at_takes; again = cell_again }
