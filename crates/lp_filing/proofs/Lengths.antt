-- How many bytes a text of so many code points takes at most.
use Rattle.std.proofs.Common.{◌≡◌, ◌∙◌, ◌<◌, ◌≤◌, ◌+◌, ◌*◌, ◌/◌, ℕ, zero, suc, List, [], ◌∷◌, ◌++◌, Bool, true, false, ap, arith, inl, inr, length, length-append, refl, subst, sym, take}
use Rattle.std.proofs.Math.Utf8.{encode, encodes}
use Rattle.std.specs.Prelude.{◌&&◌, IsUtf8, chars, if◌then◌else◌, nat_eq, nat_le}
use Rattle.std.specs.Str.{is_utf8}
use Rattle.std.specs.Str.Lossy.{utf8_valid_len, valid_len_up_to}
use Rattle.std.proofs.lemmas.Bool.{cases_Bool, cond-false, cond-true, eqb-true, leb-true}
use Rattle.std.proofs.lemmas.List.{take_all}
use Rattle.std.proofs.lemmas.Str.{IsUtf8-from_is_utf8, encodes-chars, len_utf8_bounds, length-encode}

-- four bytes each
length-encodes : (cs : List ℕ) → length (encodes cs) ≤ 4 * length cs
length-encodes [] = omega arith
length-encodes (c ∷ cs) =
    let more = length-encodes cs in
    let one = len_utf8_bounds c in
    let is = length-encode c in
    let all = length-append (encode c) (encodes cs) in
    omega (arith, more, one.1, is, all)

utf8_most : (bytes : List ℕ) → IsUtf8 bytes → length bytes ≤ 4 * length (chars bytes)
utf8_most bytes u = subst (λ (bs : List ℕ). length bs ≤ 4 * length (chars bytes)) (encodes-chars bytes u) (length-encodes (chars bytes))

valid_at_most : (bytes : List ℕ) (n : ℕ) → valid_len_up_to bytes n ≤ n
valid_at_most bytes zero = omega arith
valid_at_most bytes (suc n) = let less = valid_at_most bytes n in elim (cases_Bool (is_utf8 (take (suc n) bytes))) [
  | inl t ↦ subst (λ k. k ≤ suc n) (sym (cond-true (is_utf8 (take (suc n) bytes)) (suc n) (valid_len_up_to bytes n) t)) (omega arith)
  | inr f ↦ subst (λ k. k ≤ suc n) (sym (cond-false (is_utf8 (take (suc n) bytes)) (suc n) (valid_len_up_to bytes n) f)) (omega (arith, less))
]

-- bytes that are valid to their end are UTF-8
valid_at : (bytes : List ℕ) (n : ℕ) → valid_len_up_to bytes n ≡ n → IsUtf8 (take n bytes)
valid_at bytes zero e = ([], (refl, refl))
valid_at bytes (suc n) e = let less = valid_at_most bytes n in elim (cases_Bool (is_utf8 (take (suc n) bytes))) [
  | inl t ↦ IsUtf8-from_is_utf8 _ t
  | inr f ↦ let same : valid_len_up_to bytes n ≡ suc n = sym (cond-false (is_utf8 (take (suc n) bytes)) (suc n) (valid_len_up_to bytes n) f) ∙ e in absurd (omega (arith, less, same))
]

valid_whole : (bytes : List ℕ) → utf8_valid_len bytes ≡ length bytes → IsUtf8 bytes
unfolding utf8_valid_len
valid_whole bytes e = subst IsUtf8 (take_all (length bytes) bytes (omega arith)) (valid_at bytes (length bytes) e)

-- more bytes than four for each are no text of so many code points
pub long_text : (m : ℕ) (bytes : List ℕ) → m < length bytes / 4 → (nat_eq (utf8_valid_len bytes) (length bytes) && nat_le (length (chars bytes)) m) ≡ false
long_text m bytes long = by (nat_eq (utf8_valid_len bytes) (length bytes)) (nat_le (length (chars bytes)) m) refl refl
  where
    by : (b c : Bool) → nat_eq (utf8_valid_len bytes) (length bytes) ≡ b → nat_le (length (chars bytes)) m ≡ c → (b && c) ≡ false
    by false c e f = refl
    by true false e f = refl
    by true true e f =
        let most = utf8_most bytes (valid_whole bytes (eqb-true _ _ e)) in
        let few : length (chars bytes) ≤ m = leb-true _ _ f in
        absurd (omega (arith, most, few, long))
