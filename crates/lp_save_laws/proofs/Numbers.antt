-- Numbers and integers that were spelled are read as they were.
use Rattle.std.proofs.Common.{◌≡◌, ℕ, zero, suc, ◌+◌, ◌*◌, ◌-◌, ◌^◌, ◌<◌, ◌≤◌, true, false, cond, ◌||◌, ◌&&◌, List, [], ◌∷◌, ◌++◌, length, drop, take, get_or, not, Option, Some, None, refl, ap, ◌∙◌, arith, ℤ, pos, negsuc}
use Rattle.std.specs.Prelude.{codes, nat_eq, nat_lt, decimal}
use Rattle.std.specs.Char.{is_ascii_digit}
use Rattle.std.specs.Cmp.Lexicographic.{pointwise}
use Rattle.std.specs.Fmt.{signed_decimal}
use Rattle.std.specs.List.{fold, prefix_len, starts_with}
use Rattle.std.specs.Str.Parse.{AllDigits}
use Rattle.std.proofs.lemmas.Bool.{cond-true, cond-false, le-leb, le-ltb, lt-ltb, ne_eqb}
use Rattle.std.proofs.lemmas.Fmt.{decimal_digit, decimal_is_IsNumeral, digits_value-decimal, first_decimal}
use Rattle.std.proofs.lemmas.Str.Parse.{digit_from_value, numerals_by_fold, tells_digits}
use Rattle.lp_values.specs.declared.value.Value.{Value}
use Rattle.lp_values.specs.declared.value.Value.TheVariants.{Int}
use Rattle.lp_text.specs.Scans.{digits_number, signed}
use Rattle.lp_save.specs.declared.fault.FaultKind.TheVariants.{BadValue}
use Rattle.lp_save.specs.SaveText.{Reading, Rest, begins, digits_at, int_of, int_read, is_number, left, number_read, then_read}
use Rattle.lp_save.specs.Reading.{Done, or_wrong, value_at}
use Rattle.lp_save.proofs.DeskLemmas.{no_cell, value_int}
use Rattle.lp_save_laws.specs.Matching.{IsInt}

-- ---- digits

is_digit : (c : ℕ) → 48 ≤ c → c ≤ 57 → is_ascii_digit c ≡ true
is_digit c h k = λ i. le-leb 48 c h i && le-leb c 57 k i

digits_pass : (ds rest : List ℕ) → AllDigits 10 ds → prefix_len is_ascii_digit rest ≡ 0 → prefix_len is_ascii_digit (ds ++ rest) ≡ length ds
digits_pass [] rest d h = h
digits_pass (c ∷ cs) rest d h =
    let k = digit_from_value c d.0 in
    let e = digits_pass cs rest d.1 h in
    cond-true (is_ascii_digit c) (1 + prefix_len is_ascii_digit (cs ++ rest)) 0 (is_digit c k.0 k.1) ∙ omega (arith, e)

pub take_front : {A : Type 0} (xs ys : List A) → take (length xs) (xs ++ ys) ≡ xs
take_front [] ys = refl
take_front (x ∷ xs) ys = ap (λ z. x ∷ z) (take_front xs ys)

pub drop_front : {A : Type 0} (xs ys : List A) → drop (length xs) (xs ++ ys) ≡ ys
drop_front [] ys = refl
drop_front (x ∷ xs) ys = drop_front xs ys

number_of : (ds rest : List ℕ) (n : ℕ) (r : Rest) → AllDigits 10 ds → is_number ds ≡ true → digits_number ds ≡ n → prefix_len is_ascii_digit rest ≡ 0 → number_read (left (ds ++ rest) r) ≡ Some (n, left rest r)
number_of ds rest n r d is value ends =
    let t : List ℕ = ds ++ rest in
    let at : digits_at t ≡ ds = ap (λ k. take k t) (digits_pass ds rest d ends) ∙ take_front ds rest in
    ap (λ x. cond (is_number x) (Some (digits_number x, left (drop (length x) t) r)) None) at
    ∙ cond-true (is_number ds) (Some (digits_number ds, left (drop (length ds) t) r)) None is
    ∙ ap (λ m. Some (m, left (drop (length ds) t) r)) value ∙ ap (λ y. Some (n, left y r)) (drop_front ds rest)

leads : (ds : List ℕ) → 48 < get_or ds 0 0 → is_number ds ≡ true
leads [] h = absurd (omega arith)
leads (d ∷ ds) h = ap (λ b. not b || nat_eq (length ds) 0) (ne_eqb d 48 (λ e. omega arith))

is_decimal : (n : ℕ) → n < 2 ^ 64 → is_number (decimal n) ≡ true
is_decimal zero h = ap is_number (decimal_digit 0 (omega arith))
is_decimal (suc n) h = leads (decimal (suc n)) (first_decimal (suc n) (omega arith) h)

value_is : (n : ℕ) → n < 2 ^ 64 → digits_number (decimal n) ≡ n
value_is n h = digits_value-decimal (numerals_by_fold (AllDigits 10) tells_digits (λ m ds. fold (λ n d. n * 10 + (d - 48)) m ds) (record { empty = λ m. refl; more = λ m c cs k. refl })) n h

-- a number is read as it was spelled, where no digit stands behind it
pub number_again : (n : ℕ) (rest : List ℕ) (r : Rest) → n < 2 ^ 64 → prefix_len is_ascii_digit rest ≡ 0 → number_read (left (decimal n ++ rest) r) ≡ Some (n, left rest r)
number_again n rest r h ends = number_of (decimal n) rest n r (decimal_is_IsNumeral n h).0.1 (is_decimal n h) (value_is n h) ends

-- ---- integers

-- a mark that begins otherwise
pub other_mark : (m : ℕ) (ms : List ℕ) (d : ℕ) (cs : List ℕ) → nat_eq m d ≡ false → starts_with nat_eq (d ∷ cs) (m ∷ ms) ≡ false
other_mark m ms d cs h = ap (λ b. b && pointwise nat_eq ms (take (length ms) cs)) h

-- a text that begins with a digit begins with none of these marks
digit_mark : (m : ℕ) (ms ds rest : List ℕ) → 0 < length ds → AllDigits 10 ds → (48 ≤ m → m ≤ 57 → ⊥) → starts_with nat_eq (ds ++ rest) (m ∷ ms) ≡ false
digit_mark m ms [] rest some d unlike = absurd (omega arith)
digit_mark m ms (c ∷ cs) rest some d unlike =
    let k = digit_from_value c d.0 in
    let low : 48 ≤ c = k.0 in
    let high : c ≤ 57 = k.1 in
    other_mark m ms c (cs ++ rest) (ne_eqb m c (λ e. unlike (omega arith) (omega arith)))

-- an integer is read by its number where it begins with none of the other marks
plain_int : (n : ℕ) (rest : List ℕ) (r : Rest) → n < 2 ^ 63 → prefix_len is_ascii_digit rest ≡ 0 → int_read (left (decimal n ++ rest) r) ≡ Some (Int (pos n), left rest r)
plain_int n rest r h ends =
    let k = decimal_is_IsNumeral n (omega arith) in
    let line : Rest = left (decimal n ++ rest) r in
    cond-false (begins (codes "-") line) (then_read (number_read (left (drop 1 line.text) line)) (λ n r. int_of true n r)) (then_read (number_read line) (λ n r. int_of false n r)) (digit_mark 45 [] (decimal n) rest k.0.0 k.0.1 (λ a b. omega arith))
    ∙ ap (λ m. then_read m (λ n r. int_of false n r)) (number_again n rest r (omega arith) ends)
    ∙ ap (λ o. elim o [ Some i ↦ Some (Int i, left rest r) | None ↦ None ]) (cond-true (nat_lt n (2 ^ 63)) (Some (pos n)) None (lt-ltb n (2 ^ 63) h))

minus_int : (n : ℕ) (rest : List ℕ) (r : Rest) → n < 2 ^ 63 → prefix_len is_ascii_digit rest ≡ 0 → int_read (left (45 ∷ decimal (suc n) ++ rest) r) ≡ Some (Int (negsuc n), left rest r)
minus_int n rest r h ends =
    let value : Option ℤ → Reading Value = λ o. elim o [ Some i ↦ Some (Int i, left rest r) | None ↦ None ] in
    ap (λ m. then_read m (λ n r. int_of true n r)) (number_again (suc n) rest r (omega arith) ends) ∙ cond-false (true && nat_eq (suc n) 0) None (value (signed true (suc n))) (ne_eqb (suc n) 0 (λ e. omega arith))
    ∙ ap value (cond-false (nat_lt (2 ^ 63) (suc n)) None (Some (negsuc n)) (le-ltb (2 ^ 63) (suc n) (omega arith)))

-- an integer is read as it was spelled, where no digit stands behind it
pub int_again : (i : ℤ) (rest : List ℕ) (steps levels : ℕ) (r : Rest) → IsInt i → 0 < steps → prefix_len is_ascii_digit rest ≡ 0 → value_at steps levels (left (signed_decimal i ++ rest) r) ≡ Done (Int i) (left rest r)
int_again (pos n) rest steps levels r h lt ends =
    let k = decimal_is_IsNumeral n (omega arith) in
    let line : Rest = left (decimal n ++ rest) r in
    let unlike : (m : ℕ) (ms : List ℕ) → (48 ≤ m → m ≤ 57 → ⊥) → starts_with nat_eq (decimal n ++ rest) (m ∷ ms) ≡ false = λ m ms o. digit_mark m ms (decimal n) rest k.0.0 k.0.1 o in
    value_int steps levels line lt (unlike 60 [] (λ a b. omega arith)) (no_cell (begins (codes "({") line) (begins (codes "([") line) (unlike 40 (123 ∷ []) (λ a b. omega arith)) (unlike 40 (91 ∷ []) (λ a b. omega arith))) (unlike 34 [] (λ a b. omega arith))
    ∙ ap (or_wrong BadValue) (plain_int n rest r h ends)
int_again (negsuc n) rest steps levels r h lt ends = value_int steps levels (left (45 ∷ decimal (suc n) ++ rest) r) lt refl refl refl ∙ ap (or_wrong BadValue) (minus_int n rest r h ends)
