-- Numbers in decimal, digit by digit.
use Rattle.std.proofs.Common.{◌≡◌, ap, sym, refl, ◌∙◌, ℕ, zero, suc, ◌+◌, ◌/◌, ◌%◌, ◌^◌, ◌<◌, ◌≤◌, Bool, cond, List, [], ◌∷◌, ◌++◌, map, length, append_assoc, arith}
use Rattle.std.specs.Fmt.{decimal}
use Rattle.std.specs.Int.Digits.{digits_of}
use Rattle.std.proofs.lemmas.Bool.{ne_eqb}
use Rattle.std.proofs.lemmas.Fmt.{decimal_digit, decimal-digits_of, decimal_by_steps_wide}
use Rattle.std.proofs.lemmas.Int.Digits.{digits_of_step}
use Rattle.std.proofs.lemmas.List.{map-append, append-nil}
use Rattle.lp_events.specs.Script.{numeral}

-- a number above 0 is its digits
numeral_digits : (n : ℕ) → 0 < n → numeral n ≡ map (λ d. 48 + d) (digits_of 10 n)
unfolding numeral
numeral_digits n some = ap (λ (b : Bool). cond b (48 ∷ []) (map (λ d. 48 + d) (digits_of 10 n))) (ne_eqb n 0 (λ e. omega arith))

-- a number below ten is one digit
pub numeral_digit : (n : ℕ) → n < 10 → numeral n ≡ (48 + n) ∷ []
unfolding numeral
numeral_digit zero below = refl
numeral_digit (suc n) below = numeral_digits (suc n) (omega arith) ∙ sym (decimal-digits_of (suc n) (omega arith) (omega arith)) ∙ decimal_digit (suc n) below

-- another number is the number without its last digit, and that digit
pub numeral_step : (n : ℕ) → 10 ≤ n → numeral n ≡ numeral (n / 10) ++ (48 + n % 10) ∷ []
numeral_step n large =
    let more : 0 < n / 10 = omega arith in
    numeral_digits n (omega arith) ∙ ap (map (λ d. 48 + d)) (digits_of_step 10 n (omega arith) (omega arith)) ∙ map-append (λ d. 48 + d) (digits_of 10 (n / 10)) (n % 10 ∷ [])
    ∙ ap (λ (xs : List ℕ). xs ++ (48 + n % 10) ∷ []) (sym (numeral_digits (n / 10) more))

-- what std writes of a number is its numeral
pub decimal-numeral : (n : ℕ) → n < 10 ^ 64 → decimal n ≡ numeral n
decimal-numeral n small = decimal_by_steps_wide (λ n ds. ds ≡ numeral n) (λ n below. sym (numeral_digit n below)) (λ n ds large e. ap (λ (xs : List ℕ). xs ++ (48 + n % 10) ∷ []) e ∙ sym (numeral_step n large)) n small

-- a word, a number and an end, as pieces
pub number_pieces : (word end digits : List ℕ) (k : ℕ) → k < 10 ^ 64 → digits ≡ decimal k → word ++ (digits ++ (end ++ [])) ≡ (word ++ numeral k) ++ end
number_pieces word end digits k small e =
    ap (λ (xs : List ℕ). word ++ (xs ++ (end ++ []))) (e ∙ decimal-numeral k small) ∙ ap (λ (xs : List ℕ). word ++ (numeral k ++ xs)) (append-nil end) ∙ sym (append_assoc word (numeral k) end)

-- a word, something, and counted bytes, as pieces
pub counted_pieces : (word first given space digits line bytes shown : List ℕ) → length bytes < 10 ^ 64 → first ≡ given → shown ≡ bytes → digits ≡ decimal (length shown)
    → word ++ (first ++ (space ++ (digits ++ (line ++ (shown ++ (line ++ [])))))) ≡ ((word ++ given) ++ space) ++ (((numeral (length bytes) ++ line) ++ bytes) ++ line)
counted_pieces word first given space digits line bytes shown small d f e =
    ap (λ (xs : List ℕ). word ++ (xs ++ (space ++ (digits ++ (line ++ (shown ++ (line ++ []))))))) d
    ∙ ap (λ (xs : List ℕ). word ++ (given ++ (space ++ (xs ++ (line ++ (shown ++ (line ++ []))))))) (e ∙ ap (λ (xs : List ℕ). decimal (length xs)) f ∙ decimal-numeral (length bytes) small)
    ∙ ap (λ (xs : List ℕ). word ++ (given ++ (space ++ (numeral (length bytes) ++ (line ++ (xs ++ (line ++ []))))))) f ∙ simp (append_assoc, append-nil)

-- a word, text and an end, as pieces
pub name_pieces : (word name given end : List ℕ) → given ≡ name → word ++ (given ++ (end ++ [])) ≡ (word ++ name) ++ end
name_pieces word name given end e = ap (λ (xs : List ℕ). word ++ (xs ++ (end ++ []))) e ∙ simp (append_assoc, append-nil)

-- a word and two numbers, as pieces
pub head_pieces : (word space end first second : List ℕ) (m n : ℕ) → m < 10 ^ 64 → n < 10 ^ 64 → first ≡ decimal m → second ≡ decimal n
    → word ++ (first ++ (space ++ (second ++ (end ++ [])))) ≡ (((word ++ numeral m) ++ space) ++ numeral n) ++ end
head_pieces word space end first second m n m_small n_small e f =
    ap (λ (xs : List ℕ). word ++ (xs ++ (space ++ (second ++ (end ++ []))))) (e ∙ decimal-numeral m m_small) ∙ ap (λ (xs : List ℕ). word ++ (numeral m ++ (space ++ (xs ++ (end ++ []))))) (f ∙ decimal-numeral n n_small) ∙ simp (append_assoc, append-nil)
