-- The locals with which a function begins, on the stack.
use Rattle.std.proofs.Common.{◌≡◌, ◌++◌, ◌∷◌, [], ◌∙◌, ℕ, zero, suc, ◌+◌, ◌-◌, ◌<◌, ◌≤◌, List, refl, ap, sym, arith, append-nil, append_assoc, drop, length, length-append, replicate, take}
use Rattle.std.proofs.lemmas.List.{length-replicate}
use Rattle.lp_values.specs.declared.value.Value.{Value}
use Rattle.lp_language.specs.Course.{zero_value}
use Rattle.lp_frames.specs.Entries.{begun_locals}

-- one more zero, of those that are still to come
pub one_filled : (height : ℕ) (first old new : List Value) → old ++ replicate (height - length old) zero_value ≡ first → length old < height → new ≡ old ++ zero_value ∷ []
    → new ++ replicate (height - length new) zero_value ≡ first
one_filled height first old new e h n =
    let len : length new ≡ length old + 1 = ap length n ∙ length-append old (zero_value ∷ []) in
    let k : height - length old ≡ suc (height - length new) = omega (arith, h, len) in
    ap (λ l. l ++ replicate (height - length new) zero_value) n ∙ append_assoc old (zero_value ∷ []) (replicate (height - length new) zero_value) ∙ ap (λ j. old ++ replicate j zero_value) (sym k) ∙ e

-- and none is left
pub all_filled : (height : ℕ) (first new : List Value) → new ++ replicate (height - length new) zero_value ≡ first → height ≤ length new → new ≡ first
all_filled height first new e h =
    let k : height - length new ≡ 0 = omega (arith, h) in
    sym (append-nil new) ∙ ap (λ j. new ++ replicate j zero_value) (sym k) ∙ e

take_more : (b p n : ℕ) (xs : List Value) → n ≡ b + p → b ≤ length xs → take n xs ≡ take b xs ++ take p (drop b xs)
take_more zero p n xs e h = let q : n ≡ p = omega (arith, e) in ap (λ k. take k xs) q
take_more (suc b) p n [] e h = absurd (omega (arith, h))
take_more (suc b) p zero (x ∷ xs) e h = absurd (omega (arith, e))
take_more (suc b) p (suc n) (x ∷ xs) e h = ap (λ l. x ∷ l) (take_more b p n xs (omega (arith, e)) (omega (arith, h)))

length_take : (b : ℕ) (xs : List Value) → b ≤ length xs → length (take b xs) ≡ b
length_take zero xs h = refl
length_take (suc b) [] h = absurd (omega (arith, h))
length_take (suc b) (x ∷ xs) h = ap suc (length_take b xs (omega (arith, h)))

pub locals_begun : (bottom params locals : ℕ) (old cut new : List Value) → bottom ≤ length old → cut ≡ take (bottom + params) old → new ≡ cut ++ replicate (bottom + locals - length cut) zero_value
    → new ≡ take bottom old ++ begun_locals params locals (drop bottom old)
locals_begun bottom params locals old cut new h c n =
    let t = c ∙ take_more bottom params (bottom + params) old refl h in
    let len : length cut ≡ bottom + length (take params (drop bottom old)) = omega (arith, ap length t, length-append (take bottom old) (take params (drop bottom old)), length_take bottom old h) in
    let k : bottom + locals - length cut ≡ locals - length (take params (drop bottom old)) = omega (arith, len) in
    n ∙ ap (λ j. cut ++ replicate j zero_value) k ∙ ap (λ l. l ++ replicate (locals - length (take params (drop bottom old))) zero_value) t
    ∙ append_assoc (take bottom old) (take params (drop bottom old)) (replicate (locals - length (take params (drop bottom old))) zero_value)

-- there are as many locals as the row says
length_taken : (n : ℕ) (xs : List Value) → length (take n xs) ≤ n
length_taken zero xs = omega arith
length_taken (suc n) [] = omega arith
length_taken (suc n) (x ∷ xs) = omega (arith, length_taken n xs)

pub length_begun : (params locals : ℕ) (xs : List Value) → params ≤ locals → length (begun_locals params locals xs) ≡ locals
length_begun params locals xs h =
    omega (arith, h, length-append (take params xs) (replicate (locals - length (take params xs)) zero_value), length-replicate (locals - length (take params xs)) zero_value, length_taken params xs)
