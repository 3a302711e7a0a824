-- Exactly the numbers in decimal are digits without a leading zero.
use Rattle.std.proofs.Common.{subst, ◌<◌, ◌≤◌, ◌+◌, ◌*◌, ◌-◌, ◌/◌, ◌%◌, ◌==◌, get_or, map, arith, ◌≡◌, ◌∙◌, ℕ, List, [], ◌∷◌, ◌++◌, Bool, true, false, ◌&&◌, refl, sym, ap, append_assoc}
use Rattle.std.specs.Prelude.{if◌then◌else◌, nat_le}
use Rattle.std.specs.List.{list_all}
use Rattle.std.specs.Int.Digits.{digits_of, number_from_digits, AllBelowBase}
use Rattle.std.proofs.lemmas.Int.Digits.{number_push, digits_of_step, all_below_base_digits_of, first_digits_of}
use Rattle.std.proofs.lemmas.Bool.{and_parts, and_from, eqb-true, eqb-false, leb-true, le-leb, true≢false, ne_eqb}
use Rattle.std.proofs.lemmas.List.{append-nil}
use Rattle.std.proofs.lemmas.List.Folds.{list_all-append}
use Rattle.lp_events.specs.Script.{numeral}
use Rattle.lp_words.specs.Paths.{is_nil, is_digit, is_numeral}

digit-below : (c : ℕ) → is_digit c ≡ true → (48 ≤ c) × (c ≤ 57)
digit-below c h = let t = and_parts (nat_le 48 c) (nat_le c 57) h in (leb-true 48 c t.0, leb-true c 57 t.1)

digit-from : (d : ℕ) → d < 10 → is_digit (48 + d) ≡ true
digit-from d h =
    let l : 48 ≤ 48 + d = omega arith in
    let m : 48 + d ≤ 57 = omega arith in
    and_from _ _ (le-leb 48 (48 + d) l) (le-leb (48 + d) 57 m)

-- COMPLETE

first-other : (c : ℕ) (cs : List ℕ) → (c ≡ 48 → ⊥) → list_all is_digit (c ∷ cs) ≡ true → is_numeral (c ∷ cs) ≡ true
first-other c cs h a = ap (λ b. if◌then◌else◌ b (is_nil cs) (list_all is_digit (c ∷ cs))) (ne_eqb c 48 h) ∙ a

digits-pass : (ds : List ℕ) → AllBelowBase 10 ds → list_all is_digit (map (λ d. 48 + d) ds) ≡ true
digits-pass [] h = refl
digits-pass (d ∷ ds) h = and_from _ _ (digit-from d h.0) (digits-pass ds h.1)

written-passes : (ds : List ℕ) → 0 < get_or ds 0 0 → AllBelowBase 10 ds → is_numeral (map (λ d. 48 + d) ds) ≡ true
written-passes [] first h = absurd (omega arith)
written-passes (d ∷ ds) first h = first-other (48 + d) (map (λ d. 48 + d) ds) (λ e. omega arith) (digits-pass (d ∷ ds) h)

passes-by : (b : Bool) (n : ℕ) → (n == 0) ≡ b → is_numeral (if◌then◌else◌ b (48 ∷ []) (map (λ d. 48 + d) (digits_of 10 n))) ≡ true
passes-by true n e = refl
passes-by false n e =
    let some : 0 < n = omega (arith, eqb-false n 0 e) in
    written-passes (digits_of 10 n) (first_digits_of 10 n (omega arith) some) (all_below_base_digits_of 10 n (omega arith))

pub numeral-passes : (n : ℕ) → is_numeral (numeral n) ≡ true
unfolding numeral
numeral-passes n = passes-by (n == 0) n refl

-- SOUND

div_ten : (a d : ℕ) → d < 10 → (a * 10 + d) / 10 ≡ a
div_ten a d h = omega arith

mod_ten : (a d : ℕ) → d < 10 → (a * 10 + d) % 10 ≡ d
mod_ten a d h = omega arith

-- digits that stand for their number, and one more
push : (e : List ℕ) (d : ℕ) → digits_of 10 (number_from_digits 10 e) ≡ e → d < 10 → 0 < number_from_digits 10 e * 10 + d
    → digits_of 10 (number_from_digits 10 (e ++ d ∷ [])) ≡ e ++ d ∷ []
push e d h l some =
    let n : ℕ = number_from_digits 10 e in
    ap (digits_of 10) (number_push 10 e d)
    ∙ digits_of_step 10 (n * 10 + d) (omega arith) some
    ∙ ap (λ q. digits_of 10 q ++ ((n * 10 + d) % 10 ∷ [])) (div_ten n d l)
    ∙ ap (λ r. digits_of 10 n ++ r ∷ []) (mod_ten n d l)
    ∙ ap (λ xs. xs ++ d ∷ []) h

-- what is written of a number are its digits
abbrev Stands : List ℕ → Type 0
Stands ds = (0 < number_from_digits 10 ds) × (digits_of 10 (number_from_digits 10 ds) ≡ ds)

stands-more : (e ds : List ℕ) → Stands e → AllBelowBase 10 ds → Stands (e ++ ds)
stands-more e [] s h = subst Stands (sym (append-nil e)) s
stands-more e (d ∷ ds) s h =
    let some : 0 < number_from_digits 10 e * 10 + d = omega (arith, s.0) in
    let one : Stands (e ++ d ∷ []) = (omega (arith, number_push 10 e d, some), push e d s.1 h.0 some) in
    subst Stands (append_assoc e (d ∷ []) ds) (stands-more (e ++ d ∷ []) ds one h.1)

stands : (ds : List ℕ) → 0 < get_or ds 0 0 → AllBelowBase 10 ds → Stands ds
stands [] first h = absurd (omega arith)
stands (d ∷ ds) first h =
    let some : 0 < number_from_digits 10 [] * 10 + d = omega arith in
    stands-more (d ∷ []) ds (omega (arith, number_push 10 [] d, some), push [] d refl h.0 some) h.1

written-back : (cs : List ℕ) → list_all is_digit cs ≡ true → map (λ d. 48 + d) (map (λ c. c - 48) cs) ≡ cs
written-back [] h = refl
written-back (c ∷ cs) h =
    let t = and_parts (is_digit c) (list_all is_digit cs) h in
    let e : 48 + (c - 48) ≡ c = omega (arith, (digit-below c t.0).0) in
    ap (λ x. x ∷ map (λ d. 48 + d) (map (λ c. c - 48) cs)) e ∙ ap (λ xs. c ∷ xs) (written-back cs t.1)

read-below : (cs : List ℕ) → list_all is_digit cs ≡ true → AllBelowBase 10 (map (λ c. c - 48) cs)
read-below [] h = tt
read-below (c ∷ cs) h =
    let t = and_parts (is_digit c) (list_all is_digit cs) h in
    let l : c - 48 < 10 = omega (arith, (digit-below c t.0).1) in
    (l, read-below cs t.1)

written-by : (b : Bool) (n : ℕ) (xs : List ℕ) → (n == 0) ≡ b → 0 < n → if◌then◌else◌ b (48 ∷ []) xs ≡ xs
written-by true n xs e h = absurd (omega (arith, eqb-true n 0 e))
written-by false n xs e h = refl

numeral-is : (n : ℕ) → 0 < n → numeral n ≡ map (λ d. 48 + d) (digits_of 10 n)
unfolding numeral
numeral-is n h = written-by (n == 0) n _ refl h

numeral-zero : 48 ∷ [] ≡ numeral 0
unfolding numeral
numeral-zero = refl

abbrev IsWritten : List ℕ → Type 0
IsWritten cs = (n : ℕ) × (cs ≡ numeral n)

written-zero : (c : ℕ) (cs : List ℕ) → c ≡ 48 → is_nil cs ≡ true → IsWritten (c ∷ cs)
written-zero c [] e h = (0, ap (λ x. x ∷ []) e ∙ numeral-zero)
written-zero c (x ∷ cs) e h = absurd (true≢false (sym h))

written-some : (c : ℕ) (cs : List ℕ) → (c ≡ 48 → ⊥) → list_all is_digit (c ∷ cs) ≡ true → IsWritten (c ∷ cs)
written-some c cs e h =
    let t = and_parts (is_digit c) (list_all is_digit cs) h in
    let first : 0 < c - 48 = omega (arith, (digit-below c t.0).0, e) in
    let ds : List ℕ = map (λ c. c - 48) (c ∷ cs) in
    let s = stands ds first (read-below (c ∷ cs) h) in
    (number_from_digits 10 ds, sym (numeral-is (number_from_digits 10 ds) s.0 ∙ ap (map (λ d. 48 + d)) s.1 ∙ written-back (c ∷ cs) h))

from-test : (b : Bool) (c : ℕ) (cs : List ℕ) → (c == 48) ≡ b → if◌then◌else◌ b (is_nil cs) (list_all is_digit (c ∷ cs)) ≡ true → IsWritten (c ∷ cs)
from-test true c cs e h = written-zero c cs (eqb-true c 48 e) h
from-test false c cs e h = written-some c cs (eqb-false c 48 e) h

pub numeral-spelled : (cs : List ℕ) → is_numeral cs ≡ true → (n : ℕ) × (cs ≡ numeral n)
numeral-spelled [] h = absurd (true≢false (sym h))
numeral-spelled (c ∷ cs) h = from-test (c == 48) c cs refl h

-- FRONTS

zero-digits : (c : ℕ) (cs : List ℕ) → c ≡ 48 → is_nil cs ≡ true → list_all is_digit (c ∷ cs) ≡ true
zero-digits c [] e h = ap (λ x. is_digit x && true) e
zero-digits c (x ∷ cs) e h = absurd (true≢false (sym h))

test-digits : (b : Bool) (c : ℕ) (cs : List ℕ) → (c == 48) ≡ b → if◌then◌else◌ b (is_nil cs) (list_all is_digit (c ∷ cs)) ≡ true → list_all is_digit (c ∷ cs) ≡ true
test-digits true c cs e h = zero-digits c cs (eqb-true c 48 e) h
test-digits false c cs e h = h

pub numeral-digits : (cs : List ℕ) → is_numeral cs ≡ true → list_all is_digit cs ≡ true
numeral-digits [] h = refl
numeral-digits (c ∷ cs) h = test-digits (c == 48) c cs refl h

nil-front : (cs others : List ℕ) → is_nil (cs ++ others) ≡ true → is_nil cs ≡ true
nil-front [] others h = refl
nil-front (c ∷ cs) others h = h

front-by : (b : Bool) (c : ℕ) (cs others : List ℕ) → if◌then◌else◌ b (is_nil (cs ++ others)) (list_all is_digit (c ∷ (cs ++ others))) ≡ true
    → if◌then◌else◌ b (is_nil cs) (list_all is_digit (c ∷ cs)) ≡ true
front-by true c cs others h = nil-front cs others h
front-by false c cs others h = (and_parts _ _ (sym (list_all-append is_digit (c ∷ cs) others) ∙ h)).0

-- a front of a number that has a byte is a number
pub numeral-front : (c : ℕ) (cs others : List ℕ) → is_numeral ((c ∷ cs) ++ others) ≡ true → is_numeral (c ∷ cs) ≡ true
numeral-front c cs others h = front-by (c == 48) c cs others h
