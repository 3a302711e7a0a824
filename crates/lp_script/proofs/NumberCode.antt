-- What the code of numbers leaves to show.
use Rattle.std.proofs.Common.{◌≡◌, ap, sym, refl, ◌∙◌, ℕ, suc, ◌+◌, ◌-◌, ◌*◌, ◌^◌, ◌<◌, ◌≤◌, min, Bool, true, false, cond, eqb, leb, ltb, not, ◌&&◌, ◌||◌, List, [], ◌∷◌, Option, Some, None, Ok, Err, length, drop, take, get_or, arith, ◌⊎◌, inl, inr}
use Rattle.std.specs.List.{list_all}
use Rattle.std.specs.Cmp.Lexicographic.{pointwise}
use Rattle.std.specs.Fmt.{decimal}
use Rattle.std.proofs.lemmas.Bool.{eqb-true, ne_eqb, lt-ltb, le-leb, leb-true}
use Rattle.std.proofs.lemmas.List.{take_more}
use Rattle.lp_events.specs.Script.{numeral}
use Rattle.lp_script.specs.Reading.{is_digit, is_empty, is_numeral, value_from, number_named, is_between, reaches, begins_between, is_front, is_one_of, begins_any, before, stopped, found}
use Rattle.lp_script.specs.Items.{count_at, between_at}
use Rattle.lp_script.specs.declared.stop.Stop.TheVariants.{Wrong}
use Rattle.lp_script.proofs.Exact.{ok_is}
use Rattle.lp_script.proofs.Numerals.{decimal-numeral}
use Rattle.lp_script.proofs.Numbers.{both, joins, value_from-append, named_is}

pub numeral_code : (w : List ℕ) → 1 ≤ length w → list_all is_digit w ≡ true → (get_or w 0 0 ≡ 48 → ⊥) → not (eqb (get_or w 0 0) 48) ≡ is_numeral w
numeral_code [] some e other = absurd (omega arith)
numeral_code (b ∷ w) some e other = ap not (ne_eqb b 48 other) ∙ sym (joins _ _ e (ap (λ (s : Bool). not s || is_empty w) (ne_eqb b 48 other)))

pub value_more : (w : List ℕ) (i v : ℕ) → i < length w → v ≡ min (value_from 0 (take i w)) (2 ^ 128 - 1) → min (min (v * 10) (2 ^ 128 - 1) + (get_or w i 0 - 48)) (2 ^ 128 - 1) ≡ min (value_from 0 (take (i + 1) w)) (2 ^ 128 - 1)
value_more w i v within e =
    let more : value_from 0 (take (i + 1) w) ≡ 10 * value_from 0 (take i w) + (get_or w i 0 - 48) = ap (value_from 0) (take_more w i 0 within) ∙ value_from-append 0 (take i w) (get_or w i 0 ∷ []) in
    omega (arith, more, e)

no_between : (low high n : ℕ) → (n < low) ⊎ (high < n) → is_between low high n ≡ false
no_between low high n (inl lt) = ap (λ (s : Bool). s && leb n high) (lt-leb low n lt)
  where
    lt-leb : (m n : ℕ) → n < m → leb m n ≡ false
    lt-leb m n lt = yes (leb m n) refl
      where
        yes : (s : Bool) → leb m n ≡ s → leb m n ≡ false
        yes true e = let le : m ≤ n = leb-true m n e in absurd (omega arith)
        yes false e = e
no_between low high n (inr lt) = ap (λ (s : Bool). leb low n && s) (lt-leb n high lt) ∙ and_false (leb low n)
  where
    lt-leb : (m n : ℕ) → n < m → leb m n ≡ false
    lt-leb m n lt = yes (leb m n) refl
      where
        yes : (s : Bool) → leb m n ≡ s → leb m n ≡ false
        yes true e = let le : m ≤ n = leb-true m n e in absurd (omega arith)
        yes false e = e

    and_false : (s : Bool) → (s && false) ≡ false
    and_false true = refl
    and_false false = refl

pub named_none : (allowed : ℕ → Bool) (w : List ℕ) → is_numeral w ≡ false → None ≡ number_named allowed w
unfolding number_named
named_none allowed w e = sym (ap (λ (s : Bool). cond (s && allowed (value_from 0 w)) (Some (value_from 0 w)) None) e)

pub named_not : (allowed : ℕ → Bool) (w : List ℕ) → is_numeral w ≡ true → allowed (value_from 0 w) ≡ false → None ≡ number_named allowed w
unfolding number_named
named_not allowed w e f = sym (ap (λ (s : Bool). cond (s && allowed (value_from 0 w)) (Some (value_from 0 w)) None) e ∙ ap (λ (s : Bool). cond s (Some (value_from 0 w)) None) f)

pub named_some : (allowed : ℕ → Bool) (w : List ℕ) (n : ℕ) → is_numeral w ≡ true → allowed (value_from 0 w) ≡ true → n ≡ value_from 0 w → Some n ≡ number_named allowed w
unfolding number_named
named_some allowed w n e f g = ap Some g ∙ sym (ap (λ (s : Bool). cond (s && allowed (value_from 0 w)) (Some (value_from 0 w)) None) e ∙ ap (λ (s : Bool). cond s (Some (value_from 0 w)) None) f)

pub between_outside : (low high v : ℕ) (w : List ℕ) → low < 2 ^ 64 → high < 2 ^ 64 → is_numeral w ≡ true → v ≡ min (value_from 0 w) (2 ^ 128 - 1) → (v < low) ⊎ (high < v) → None ≡ number_named (is_between low high) w
between_outside low high v w a b e f (inl lt) = named_not (is_between low high) w e (no_between low high (value_from 0 w) (inl (omega (arith, f))))
between_outside low high v w a b e f (inr lt) = named_not (is_between low high) w e (no_between low high (value_from 0 w) (inr (omega (arith, f))))

pub between_inside : (low high v : ℕ) (w : List ℕ) → low < 2 ^ 64 → high < 2 ^ 64 → is_numeral w ≡ true → v ≡ min (value_from 0 w) (2 ^ 128 - 1) → low ≤ v → v ≤ high → Some v ≡ number_named (is_between low high) w
between_inside low high v w a b e f ge le =
    let same : v ≡ value_from 0 w = omega (arith, f) in
    named_some (is_between low high) w v e (joins _ _ (le-leb low _ (omega (arith, same))) (le-leb _ high (omega (arith, same)))) same

-- a number above the highest begins none
pub begins_above : (low high v : ℕ) (w : List ℕ) (t : Bool) → high < 2 ^ 64 → is_empty w ≡ false → is_numeral w ≡ true → v ≡ min (value_from 0 w) (2 ^ 128 - 1) → (v ≡ 0 → ⊥) → high < v → t ≡ false → t ≡ begins_between low high w
unfolding begins_between reaches
begins_above low high v w t b some e f pos lt none =
    let z : eqb (value_from 0 w) 0 ≡ false = ne_eqb _ 0 (λ g. pos (omega (arith, f, g))) in
    let above : high < value_from 0 w = omega (arith, f) in
    none ∙ sym (ap (λ (s : Bool). s || (is_numeral w && cond (eqb (value_from 0 w) 0) (eqb low 0) (reaches 20 low high (value_from 0 w) (value_from 0 w + 1)))) some
    ∙ ap (λ (s : Bool). s && cond (eqb (value_from 0 w) 0) (eqb low 0) (reaches 20 low high (value_from 0 w) (value_from 0 w + 1))) e
    ∙ ap (λ (s : Bool). cond s (eqb low 0) (reaches 20 low high (value_from 0 w) (value_from 0 w + 1))) z
    ∙ ap (λ (s : Bool). cond s false (cond (ltb low (value_from 0 w + 1)) true (reaches 19 low high (10 * value_from 0 w) (10 * (value_from 0 w + 1))))) (lt-ltb high _ above))

pub empty_is : (w : List ℕ) (s : Bool) → s ≡ eqb (length w) 0 → s ≡ false → is_empty w ≡ false
empty_is [] s e f = let g : true ≡ false = sym e ∙ f in absurd cc
empty_is (b ∷ w) s e f = refl

pub leb-of : (m n : ℕ) → n < m → leb m n ≡ false
leb-of m n lt = yes (leb m n) refl
  where
    yes : (s : Bool) → leb m n ≡ s → leb m n ≡ false
    yes true e = let le : m ≤ n = leb-true m n e in absurd (omega arith)
    yes false e = e

-- a front, by std's words
pointwise_front : (w xs : List ℕ) → pointwise eqb w (take (length w) xs) ≡ is_front w xs
pointwise_front [] xs = refl
pointwise_front (c ∷ w) [] = refl
pointwise_front (c ∷ w) (b ∷ xs) = ap (λ (s : Bool). eqb c b && s) (pointwise_front w xs)

pub front_code : (w shown : List ℕ) (k : ℕ) (s : Bool) → k < 2 ^ 32 → shown ≡ decimal k → s ≡ pointwise eqb w (take (length w) shown) → s ≡ is_front w (numeral k)
front_code w shown k s small e f = f ∙ pointwise_front w shown ∙ ap (is_front w) (e ∙ decimal-numeral k (omega arith))

-- numbers of a list that fits
pub one_of_small : (xs : List ℕ) → ((i : ℕ) → get_or xs i 0 < 2 ^ 32) → (n : ℕ) → is_one_of xs n ≡ true → n < 2 ^ 32
one_of_small [] fits n e = absurd cc
one_of_small (x ∷ xs) fits n e = one (eqb n x) refl e (one_of_small xs (λ i. fits (suc i)) n)
  where
    one : (s : Bool) → eqb n x ≡ s → (s || is_one_of xs n) ≡ true → (is_one_of xs n ≡ true → n < 2 ^ 32) → n < 2 ^ 32
    one true f e h = let g : x < 2 ^ 32 = fits 0 in omega (arith, eqb-true n x f, g)
    one false f e h = h e

pub one_of_none : (xs w : List ℕ) (v : ℕ) → ((n : ℕ) → is_one_of xs n ≡ true → n < 2 ^ 32) → is_numeral w ≡ true → v ≡ min (value_from 0 w) (2 ^ 128 - 1) → is_one_of xs v ≡ false → None ≡ number_named (is_one_of xs) w
one_of_none xs w v small e f g = named_not (is_one_of xs) w e (one (is_one_of xs (value_from 0 w)) refl)
  where
    one : (s : Bool) → is_one_of xs (value_from 0 w) ≡ s → is_one_of xs (value_from 0 w) ≡ false
    one true h = let lt = small (value_from 0 w) h in let same : v ≡ value_from 0 w = omega (arith, f, lt) in let k : true ≡ false = sym h ∙ sym (ap (is_one_of xs) same) ∙ g in absurd cc
    one false h = h

pub one_of_some : (xs w : List ℕ) (v : ℕ) → ((n : ℕ) → is_one_of xs n ≡ true → n < 2 ^ 32) → is_numeral w ≡ true → v ≡ min (value_from 0 w) (2 ^ 128 - 1) → is_one_of xs v ≡ true → Some v ≡ number_named (is_one_of xs) w
one_of_some xs w v small e f g =
    let lt = small v g in
    let same : v ≡ value_from 0 w = omega (arith, f, lt) in
    named_some (is_one_of xs) w v e (sym (ap (is_one_of xs) same) ∙ g) same

pub count_found : (bs word rest : List ℕ) → (before 10 bs < length bs) × (word ≡ take (before 10 bs) bs) × (rest ≡ drop (before 10 bs + 1) bs) → is_numeral word ≡ true → count_at bs ≡ Ok (value_from 0 word, rest)
unfolding count_at
count_found bs word rest (lt, w, r) e =
    ap (λ (s : Bool). cond s (stopped (begins_any bs)) (found (number_named (λ n. true) (take (before 10 bs) bs)) (drop (before 10 bs + 1) bs))) (ne_eqb _ _ (λ f. omega (arith, lt, f)))
    ∙ ap (λ (o : Option ℕ). found o (drop (before 10 bs + 1) bs)) (ap (number_named (λ n. true)) (sym w) ∙ sym (named_some (λ n. true) word (value_from 0 word) e refl refl))
    ∙ ap (λ (x : List ℕ). Ok (value_from 0 word, x)) (sym r)

pub count_wrong : (bs word rest : List ℕ) → (before 10 bs < length bs) × (word ≡ take (before 10 bs) bs) × (rest ≡ drop (before 10 bs + 1) bs) → is_numeral word ≡ false → count_at bs ≡ Err Wrong
unfolding count_at
count_wrong bs word rest (lt, w, r) e =
    ap (λ (s : Bool). cond s (stopped (begins_any bs)) (found (number_named (λ n. true) (take (before 10 bs) bs)) (drop (before 10 bs + 1) bs))) (ne_eqb _ _ (λ f. omega (arith, lt, f)))
    ∙ ap (λ (o : Option ℕ). found o (drop (before 10 bs + 1) bs)) (ap (number_named (λ n. true)) (sym w) ∙ sym (named_none (λ n. true) word e))

-- a number that was found is not above the most
pub between_most : (low high end : ℕ) (bs : List ℕ) (k : ℕ) (rest : List ℕ) → between_at low high end bs ≡ Ok (k, rest) → k ≤ high
unfolding between_at
between_most low high end bs k rest e = one (eqb (before end bs) (length bs)) e
  where
    word : List ℕ
    word = take (before end bs) bs

    two : (o : Option ℕ) → number_named (is_between low high) (take (before end bs) bs) ≡ o → found o (drop (before end bs + 1) bs) ≡ Ok (k, rest) → k ≤ high
    two None is e = absurd cc
    two (Some n) is e = let g = ok_is (n, drop (before end bs + 1) bs) (k, rest) e in let same : n ≡ k = ap (λ (q : ℕ × List ℕ). q.0) g in
        let h = named_is (is_between low high) (take (before end bs) bs) n is in let b = both (leb low n) (leb n high) h.0 in let le : n ≤ high = leb-true n high b.1 in omega (arith, le, same)

    none : (t : Bool) → stopped t ≡ Ok (k, rest) → k ≤ high
    none true e = absurd cc
    none false e = absurd cc

    one : (s : Bool) → cond s (stopped (begins_between low high bs)) (found (number_named (is_between low high) (take (before end bs) bs)) (drop (before end bs + 1) bs)) ≡ Ok (k, rest) → k ≤ high
    one true e = none (begins_between low high bs) e
    one false e = two (number_named (is_between low high) (take (before end bs) bs)) refl e
