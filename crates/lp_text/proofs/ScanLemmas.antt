-- The number that digits write.
use Rattle.std.proofs.Common.{◌≡◌, ℕ, zero, suc, ◌+◌, ◌*◌, ◌-◌, ◌<◌, ◌≤◌, List, [], ◌∷◌, length, take, get_or, arith}
use Rattle.std.specs.List.{fold}
use Rattle.std.proofs.lemmas.List.Sums.{fold_more}
use Rattle.lp_text.specs.Scans.{digits_number}

-- a number with one more digit
abbrev more : ℕ → ℕ → ℕ
more n d = n * 10 + (d - 48)

grows : (n : ℕ) (ds : List ℕ) → n ≤ fold more n ds
grows n [] = omega arith
grows n (d ∷ ds) = omega (arith, grows (more n d) ds)

so_far : (n : ℕ) (ds : List ℕ) (i : ℕ) → fold more n (take i ds) ≤ fold more n ds
so_far n ds zero = grows n ds
so_far n [] (suc i) = omega arith
so_far n (d ∷ ds) (suc i) = so_far (more n d) ds i

-- where the number with the next digit is above a limit, the whole number is
pub above : (ds : List ℕ) (i n m x : ℕ) → i < length ds → n ≡ digits_number (take i ds) → m < n * 10 + (get_or ds i x - 48) → digits_number ds ≤ m → ⊥
above ds i n m x lt e over fits =
    let a : digits_number (take (i + 1) ds) ≡ digits_number (take i ds) * 10 + (get_or ds i x - 48) = fold_more more 0 ds i x lt in
    let b : digits_number (take (i + 1) ds) ≤ digits_number ds = so_far 0 ds (i + 1) in
    omega (arith, a, b, e, over, fits)
