-- What a text feeds a hasher, step by step.
use Rattle.std.proofs.Common.{◌≡◌, ◌∙◌, ℕ, ◌+◌, ◌<◌, ◌≤◌, List, [], ◌∷◌, length, drop, get_or, refl, ap, sym, arith, add-one, drop-cons}
use Rattle.std.specs.Hash as fed
use Rattle.std.specs.List.{flat_map, fold}
use Rattle.lp_values.specs.Hashed.{four, fours}

-- fewer than four are fed one by one
pub few_fours : (cs : List ℕ) → length cs ≤ 3 → fours cs ≡ flat_map fed.char cs
unfolding fours
few_fours [] h = refl
few_fours (a ∷ []) h = refl
few_fours (a ∷ b ∷ []) h = refl
few_fours (a ∷ b ∷ c ∷ []) h = refl
few_fours (a ∷ b ∷ c ∷ d ∷ cs) h = absurd (omega arith)

one_off : (cs : List ℕ) (i : ℕ) → i < length cs → drop i cs ≡ get_or cs i 0 ∷ drop (i + 1) cs
one_off cs i lt = rw (add-one, drop-cons cs i 0 lt) refl

four_off : (cs : List ℕ) (i : ℕ) → i + 4 ≤ length cs → drop i cs ≡ get_or cs i 0 ∷ get_or cs (i + 1) 0 ∷ get_or cs (i + 2) 0 ∷ get_or cs (i + 3) 0 ∷ drop (i + 4) cs
four_off cs i fits =
    let b : drop (i + 1) cs ≡ get_or cs (i + 1) 0 ∷ drop (i + 2) cs = one_off cs (i + 1) (omega arith) ∙ ap (λ j. get_or cs (i + 1) 0 ∷ drop j cs) (omega arith) in
    let c : drop (i + 2) cs ≡ get_or cs (i + 2) 0 ∷ drop (i + 3) cs = one_off cs (i + 2) (omega arith) ∙ ap (λ j. get_or cs (i + 2) 0 ∷ drop j cs) (omega arith) in
    let d : drop (i + 3) cs ≡ get_or cs (i + 3) 0 ∷ drop (i + 4) cs = one_off cs (i + 3) (omega arith) ∙ ap (λ j. get_or cs (i + 3) 0 ∷ drop j cs) (omega arith) in
    one_off cs i (omega arith) ∙ ap (λ l. get_or cs i 0 ∷ l) (b ∙ ap (λ l. get_or cs (i + 1) 0 ∷ l) (c ∙ ap (λ l. get_or cs (i + 2) 0 ∷ l) d))

-- one write feeds four
pub next_four : {S : Type 0} (write : S → List ℕ → S) (state new : S) (cs : List ℕ) (i : ℕ) → i + 4 ≤ length cs
    → new ≡ fold write state (fed.u128 (four (get_or cs i 0) (get_or cs (i + 1) 0) (get_or cs (i + 2) 0) (get_or cs (i + 3) 0)))
    → fold write state (fours (drop i cs)) ≡ fold write new (fours (drop (i + 4) cs))
unfolding fours
next_four write state new cs i fits e = ap (λ l. fold write state (fours l)) (four_off cs i fits) ∙ ap (λ s. fold write s (fours (drop (i + 4) cs))) (sym e)
