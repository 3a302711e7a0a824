-- The number that the first digits of a text write.
use Rattle.std.proofs.Common.{◌≡◌, ◌∙◌, ℕ, zero, suc, ◌+◌, ◌*◌, ◌-◌, ◌<◌, ◌≤◌, List, [], ◌∷◌, length, take, drop, get_or, refl, ap, sym, subst, true, arith}
use Rattle.std.proofs.lemmas.List.{get_or-take, length-take}
use Rattle.std.proofs.lemmas.List.Sums.{prefix_len-drop_yes, prefix_len-le-length}
use Rattle.std.specs.Char.{is_ascii_digit}
use Rattle.std.specs.List.{prefix_len}
use Rattle.lp_text.specs.Scans.{digits_number}
use Rattle.lp_text.proofs.ScanLemmas.{above}

take_of_take : (i p : ℕ) (xs : List ℕ) → i ≤ p → take i (take p xs) ≡ take i xs
take_of_take zero p xs h = refl
take_of_take (suc i) zero xs h = absurd (omega arith)
take_of_take (suc i) (suc p) [] h = refl
take_of_take (suc i) (suc p) (x ∷ xs) h = ap (λ l. x ∷ l) (take_of_take i p xs (omega arith))

-- where the number with the next of the digits at the beginning is above a limit, the number that all of them write is
pub above_leading : (s : List ℕ) (i n m x : ℕ) → i < length s → is_ascii_digit (get_or s i x) ≡ true → i + prefix_len is_ascii_digit (drop i s) ≡ prefix_len is_ascii_digit s → n ≡ digits_number (take i s)
    → m < n * 10 + (get_or s i x - 48) → digits_number (take (prefix_len is_ascii_digit s) s) ≤ m → ⊥
above_leading s i n m x lt digit at e over fits =
    let p : ℕ = prefix_len is_ascii_digit s in
    let one : prefix_len is_ascii_digit (drop i s) ≡ 1 + prefix_len is_ascii_digit (drop (i + 1) s) = prefix_len-drop_yes is_ascii_digit s i x lt digit in
    let within : p ≤ length s = prefix_len-le-length is_ascii_digit s in
    let below : i < p = omega (arith, one, at) in
    let same : get_or (take p s) i x ≡ get_or s i x = get_or-take p s i x below in
    above (take p s) i n m x (omega (arith, length-take p s, below, within)) (e ∙ ap digits_number (sym (take_of_take i p s (omega (arith, below))))) (subst (λ d. m < n * 10 + (d - 48)) (sym same) over) fits
