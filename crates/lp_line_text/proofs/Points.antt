-- Bytes that are text or none, and a reading of a line that goes on behind a code point.
use Rattle.std.proofs.Common.{◌≡◌, ℕ, zero, suc, ◌≤◌, ◌-◌, List, [], ◌∷◌, ◌++◌, Bool, true, false, drop, take, length, chars, nat_eq, refl, ap, append_assoc, inl, inr, arith, if◌then◌else◌}
use Rattle.std.specs.Str.{IsUtf8, is_utf8}
use Rattle.std.proofs.lemmas.Bool.{cases_Bool, eqb-true}
use Rattle.std.proofs.lemmas.Str.{IsUtf8-from_is_utf8, is_utf8-from_IsUtf8}
use Rattle.lp_meaning.specs.EventTurns.{line_text, line_text_from, point_len}

pub is_text : (bs : List ℕ) → IsUtf8 bs → is_utf8 bs ≡ true
is_text bs u = is_utf8-from_IsUtf8 bs u

pub no_text : (bs : List ℕ) → (IsUtf8 bs → ⊥) → is_utf8 bs ≡ false
no_text bs not = elim (cases_Bool (is_utf8 bs)) [ inl y ↦ elim (not (IsUtf8-from_is_utf8 bs y)) [ ] | inr n ↦ n ]

pub line_text_is : (bs : List ℕ) → line_text bs ≡ line_text_from false 0 bs
unfolding line_text
line_text_is bs = refl

-- bytes that are passed are dropped
pub passed : (bad : Bool) (n : ℕ) (bs : List ℕ) → line_text_from bad n bs ≡ line_text_from bad zero (drop n bs)
passed bad zero bs = refl
passed bad (suc n) [] = refl
passed bad (suc n) (b ∷ bs) = passed bad n bs

not_zero : (i : ℕ) (b : Bool) → nat_eq (suc i) 0 ≡ b → b ≡ false
not_zero i true h = let q : suc i ≡ 0 = eqb-true (suc i) 0 h in absurd (omega (arith, q))
not_zero i false h = refl

behind : (other : List ℕ) (n b : ℕ) (bs : List ℕ) → 1 ≤ n
    → (if nat_eq n 0 then other else chars (take n (b ∷ bs)) ++ line_text_from false (n - 1) bs) ≡ chars (take n (b ∷ bs)) ++ line_text_from false 0 (drop n (b ∷ bs))
behind other zero b bs le = let no_way : ⊥ = omega arith in elim no_way [ ]
behind other (suc m) b bs le =
    let e : suc m - 1 ≡ m = omega arith in
    rw (not_zero m (nat_eq (suc m) 0) refl) (rw e (ap (λ t. chars (take (suc m) (b ∷ bs)) ++ t) (passed false m bs)))

-- a code point is read
pub at_point : (bad : Bool) (bs : List ℕ) → 1 ≤ length bs → 1 ≤ point_len bs → line_text_from bad 0 bs ≡ chars (take (point_len bs) bs) ++ line_text_from false 0 (drop (point_len bs) bs)
at_point bad [] some le = let no_way : ⊥ = omega arith in elim no_way [ ]
at_point bad (b ∷ bs) some le = behind (if bad then line_text_from true zero bs else 65533 ∷ line_text_from true zero bs) (point_len (b ∷ bs)) b bs le

pub reads_point : (old new : List ℕ) (bad : Bool) (bs p : List ℕ) (n : ℕ) → 1 ≤ length bs → p ≡ take n bs → n ≡ point_len bs → 1 ≤ n → new ≡ old ++ chars p
    → old ++ line_text_from bad 0 bs ≡ new ++ line_text_from false 0 (drop n bs)
reads_point old new bad bs p n some e d le f =
    let le' : 1 ≤ point_len bs = omega arith in
    let h = at_point bad bs some le' in
    let a = append_assoc old (chars p) (line_text_from false 0 (drop n bs)) in
    cc
