-- Numbers as words.
use Rattle.std.proofs.Common.{◌≡◌, ap, sym, refl, ◌∙◌, subst, ℕ, zero, suc, ◌+◌, ◌-◌, ◌*◌, ◌/◌, ◌%◌, ◌<◌, ◌≤◌, max, Bool, true, false, cond, eqb, leb, ltb, not, ◌&&◌, ◌||◌, List, [], ◌∷◌, ◌++◌, Some, None, length, arith, append_assoc, inl, inr}
use Rattle.std.specs.List.{list_all, list_any}
use Rattle.std.proofs.lemmas.Bool.{cases_lt, eqb-true, lt-ltb, le-ltb, le-leb, leb-true}
use Rattle.std.proofs.Math.Nat.{mul-le-mul_right, mul-le-mul_left}
use Rattle.std.proofs.lemmas.List.{append-nil}
use Rattle.lp_events.specs.Script.{numeral}
use Rattle.lp_script.specs.Reading.{is_digit, is_empty, is_numeral, value_from, number_named, is_between, reaches, begins_between, begins_any, is_one_of, is_front, begins_one_of}
use Rattle.lp_script.proofs.Numerals.{numeral_digit, numeral_step}
use Rattle.lp_script.proofs.Exact.{Words, NotIn, eqb-same, eqb-of}

-- a digit at a time
steps : (P : ℕ → List ℕ → Type 0) → ((n : ℕ) → n < 10 → P n ((48 + n) ∷ [])) → ((n : ℕ) (ds : List ℕ) → 10 ≤ n → P (n / 10) ds → P n (ds ++ (48 + n % 10) ∷ [])) → (n : ℕ) → P n (numeral n)
steps P one more n = go n n (omega arith)
  where
    go : (f n : ℕ) → n ≤ f → P n (numeral n)
    go zero n le = subst (P n) (sym (numeral_digit n (omega arith))) (one n (omega arith))
    go (suc f) n le = elim (cases_lt n 10) as (λ _. P n (numeral n)) [
      | inl lt ↦ subst (P n) (sym (numeral_digit n lt)) (one n lt)
      | inr ge ↦ subst (P n) (sym (numeral_step n ge)) (more n (numeral (n / 10)) ge (go f (n / 10) (omega arith)))
    ]

-- tests on a list that is joined
all_digits-append : (a b : List ℕ) → list_all is_digit a ≡ true → list_all is_digit b ≡ true → list_all is_digit (a ++ b) ≡ true
all_digits-append [] b e f = f
all_digits-append (c ∷ a) b e f = let h = both (is_digit c) (list_all is_digit a) e in let k = all_digits-append a b h.1 f in rw (h.0, k) refl
  where
    both : (s t : Bool) → (s && t) ≡ true → (s ≡ true) × (t ≡ true)
    both true t e = (refl, e)
    both false t e = absurd cc

pub both : (s t : Bool) → (s && t) ≡ true → (s ≡ true) × (t ≡ true)
both true t e = (refl, e)
both false t e = absurd cc

pub joins : (s t : Bool) → s ≡ true → t ≡ true → (s && t) ≡ true
joins s t e f = rw (e, f) refl

all_digits-rest : (a b : List ℕ) → list_all is_digit (a ++ b) ≡ true → (list_all is_digit a ≡ true) × (list_all is_digit b ≡ true)
all_digits-rest [] b e = (refl, e)
all_digits-rest (c ∷ a) b e = let h = both (is_digit c) (list_all is_digit (a ++ b)) e in let k = all_digits-rest a b h.1 in (joins _ _ h.0 k.0, k.1)

digit : (n : ℕ) → n < 10 → is_digit (48 + n) ≡ true
digit n lt = joins _ _ (le-leb 48 (48 + n) (omega arith)) (le-leb (48 + n) 57 (omega arith))

-- the digits of a number
pub numeral_digits : (n : ℕ) → list_all is_digit (numeral n) ≡ true
numeral_digits n = steps (λ n ds. list_all is_digit ds ≡ true) (λ n lt. joins _ _ (digit n lt) refl) (λ n ds ge e. all_digits-append ds ((48 + n % 10) ∷ []) e (joins _ _ (digit (n % 10) (omega arith)) refl)) n

pub value_from-append : (n : ℕ) (a b : List ℕ) → value_from n (a ++ b) ≡ value_from (value_from n a) b
value_from-append n [] b = refl
value_from-append n (c ∷ a) b = value_from-append (10 * n + (c - 48)) a b

pub value_numeral : (n : ℕ) → value_from 0 (numeral n) ≡ n
value_numeral n = steps (λ n ds. value_from 0 ds ≡ n) (λ n lt. omega arith) (λ n ds ge e. value_from-append 0 ds ((48 + n % 10) ∷ []) ∙ ap (λ (m : ℕ). 10 * m + (48 + n % 10 - 48)) e ∙ omega arith) n

pub numeral_same : (m n : ℕ) → numeral m ≡ numeral n → m ≡ n
numeral_same m n e = sym (value_numeral m) ∙ ap (value_from 0) e ∙ value_numeral n

-- the first digit is 0 for 0 alone
pub first_digit : (n : ℕ) → (c : ℕ) × (t : List ℕ) × (numeral n ≡ c ∷ t) × (c ≡ 48 → n ≡ 0)
first_digit n = steps (λ n ds. (c : ℕ) × (t : List ℕ) × (ds ≡ c ∷ t) × (c ≡ 48 → n ≡ 0)) (λ n lt. (48 + n, [], refl, λ e. omega (arith, e)))
    (λ n ds ge h. (h.0, h.1 ++ (48 + n % 10) ∷ [], ap (λ (xs : List ℕ). xs ++ (48 + n % 10) ∷ []) h.2, λ e. omega (arith, h.3 e))) n

pub numeral_is : (n : ℕ) → is_numeral (numeral n) ≡ true
numeral_is n =
    let h = first_digit n in
    let d = numeral_digits n in
    subst (λ (w : List ℕ). is_numeral w ≡ true) (sym h.2) (joins _ _ (sym (ap (list_all is_digit) h.2) ∙ d) (zero_alone (eqb h.0 48) refl))
  where
    zero_alone : (t : Bool) → eqb (first_digit n).0 48 ≡ t → (not t || is_empty (first_digit n).1) ≡ true
    zero_alone true e = let h = first_digit n in let z : n ≡ 0 = h.3 (eqb-true h.0 48 e) in let k : 48 ∷ [] ≡ h.0 ∷ h.1 = sym (ap numeral z ∙ numeral_digit 0 (omega arith)) ∙ h.2 in let l : [] ≡ h.1 = cc in ap is_empty (sym l)
    zero_alone false e = refl

-- a number and more digits
pub grow : (n : ℕ) (t : List ℕ) → 0 < n → list_all is_digit t ≡ true → numeral (value_from n t) ≡ numeral n ++ t
grow n [] some e = sym (append-nil (numeral n))
grow n (b ∷ t) some e =
    let h = both (is_digit b) (list_all is_digit t) e in
    let d = both (leb 48 b) (leb b 57) h.0 in
    let low : 48 ≤ b = leb-true 48 b d.0 in
    let high : b ≤ 57 = leb-true b 57 d.1 in
    let q : (10 * n + (b - 48)) / 10 ≡ n = omega arith in
    let r : (10 * n + (b - 48)) % 10 ≡ b - 48 = omega arith in
    let c : 48 + (b - 48) ≡ b = omega arith in
    grow (10 * n + (b - 48)) t (omega arith) h.1
    ∙ ap (λ (xs : List ℕ). xs ++ t) (numeral_step (10 * n + (b - 48)) (omega arith) ∙ ap (λ (i : ℕ). numeral i ++ (48 + (10 * n + (b - 48)) % 10) ∷ []) q ∙ ap (λ (i : ℕ). numeral n ++ (48 + i) ∷ []) r ∙ ap (λ (i : ℕ). numeral n ++ i ∷ []) c)
    ∙ append_assoc (numeral n) (b ∷ []) t

-- what is a numeral is that of its value
pub numeral_value : (w : List ℕ) → is_numeral w ≡ true → numeral (value_from 0 w) ≡ w
numeral_value [] e = absurd cc
numeral_value (b ∷ t) e =
    let h = both (list_all is_digit (b ∷ t)) (not (eqb b 48) || is_empty t) e in
    let k = both (is_digit b) (list_all is_digit t) h.0 in
    let d = both (leb 48 b) (leb b 57) k.0 in
    let low : 48 ≤ b = leb-true 48 b d.0 in
    let high : b ≤ 57 = leb-true b 57 d.1 in
    let c : 48 + (b - 48) ≡ b = omega arith in
    let first : 10 * 0 + (b - 48) ≡ b - 48 = omega arith in
    let one : numeral (b - 48) ≡ b ∷ [] = numeral_digit (b - 48) (omega arith) ∙ ap (λ (i : ℕ). i ∷ []) c in
    ap (λ (i : ℕ). numeral (value_from i t)) first ∙ rest t k.1 h.1 low high one
  where
    rest : (t : List ℕ) → list_all is_digit t ≡ true → (not (eqb b 48) || is_empty t) ≡ true → 48 ≤ b → b ≤ 57 → numeral (b - 48) ≡ b ∷ [] → numeral (value_from (b - 48) t) ≡ b ∷ t
    rest [] d z low high one = one
    rest (c ∷ t) d z low high one = elim (cases_lt 48 b) as (λ _. numeral (value_from (b - 48) (c ∷ t)) ≡ b ∷ c ∷ t) [
      | inl lt ↦ grow (b - 48) (c ∷ t) (omega arith) d ∙ ap (λ (xs : List ℕ). xs ++ c ∷ t) one
      | inr ge ↦ let same : b ≡ 48 = omega arith in let f : false ≡ true = sym (ap (λ (s : Bool). not s || false) (eqb-of same)) ∙ z in absurd cc
    ]

-- a front of a numeral, which has something, is one
pub numeral_front : (n : ℕ) (b : ℕ) (w others : List ℕ) → numeral n ≡ (b ∷ w) ++ others → is_numeral (b ∷ w) ≡ true
numeral_front n b w others e =
    let d = all_digits-rest (b ∷ w) others (sym (ap (list_all is_digit) e) ∙ numeral_digits n) in
    joins _ _ d.0 (zero_alone (eqb b 48) refl)
  where
    zero_alone : (t : Bool) → eqb b 48 ≡ t → (not t || is_empty w) ≡ true
    zero_alone true f =
        let h = first_digit n in
        let g : h.0 ∷ h.1 ≡ b ∷ (w ++ others) = sym h.2 ∙ e in
        let first : h.0 ≡ b = cc in
        let z : n ≡ 0 = h.3 (first ∙ eqb-true b 48 f) in
        let k : 48 ∷ [] ≡ b ∷ (w ++ others) = sym (ap numeral z ∙ numeral_digit 0 (omega arith)) ∙ e in
        let l : [] ≡ w ++ others = cc in
        nothing w l
      where
        nothing : (w : List ℕ) → [] ≡ w ++ others → is_empty w ≡ true
        nothing [] l = refl
        nothing (c ∷ w) l = absurd cc
    zero_alone false f = refl

-- a numeral has digits alone
pub numeral_apart : (end n : ℕ) → is_digit end ≡ false → NotIn end (numeral n)
numeral_apart end n other = apart (numeral n) (numeral_digits n)
  where
    apart : (w : List ℕ) → list_all is_digit w ≡ true → NotIn end w
    apart [] e = tt
    apart (b ∷ w) e = let h = both (is_digit b) (list_all is_digit w) e in (λ same. let f : true ≡ false = sym h.0 ∙ ap is_digit same ∙ other in cc, apart w h.1)

-- a number of a kind
pub named_is : (allowed : ℕ → Bool) (w : List ℕ) (n : ℕ) → number_named allowed w ≡ Some n → (allowed n ≡ true) × (numeral n ≡ w)
unfolding number_named
named_is allowed w n e = one (is_numeral w) refl e
  where
    two : (t : Bool) → allowed (value_from 0 w) ≡ t → is_numeral w ≡ true → cond t (Some (value_from 0 w)) None ≡ Some n → (allowed n ≡ true) × (numeral n ≡ w)
    two true f g e = let same : value_from 0 w ≡ n = cc in (sym (ap allowed same) ∙ f, ap numeral (sym same) ∙ numeral_value w g)
    two false f g e = absurd cc

    one : (s : Bool) → is_numeral w ≡ s → cond (s && allowed (value_from 0 w)) (Some (value_from 0 w)) None ≡ Some n → (allowed n ≡ true) × (numeral n ≡ w)
    one true f e = two (allowed (value_from 0 w)) refl f e
    one false f e = absurd cc

pub named_again : (allowed : ℕ → Bool) (n : ℕ) → allowed n ≡ true → number_named allowed (numeral n) ≡ Some n
unfolding number_named
named_again allowed n e =
    ap (λ (t : Bool). cond (t && allowed (value_from 0 (numeral n))) (Some (value_from 0 (numeral n))) None) (numeral_is n)
    ∙ ap (λ (m : ℕ). cond (allowed m) (Some m) None) (value_numeral n) ∙ ap (λ (t : Bool). cond t (Some n) None) e

-- any number
pub any_words : (end : ℕ) → is_digit end ≡ false → Words ℕ (λ n. Unit {0}) numeral end (number_named (λ n. true)) begins_any
any_words end other = record {
  named_is = λ w n e. (tt, (named_is (λ n. true) w n e).1);
  named_again = λ n f. named_again (λ n. true) n refl;
  begins_is = begins_is;
  begins_again = begins_again;
  apart = λ n f. numeral_apart end n other;
}
  where
    begins_is : (w : List ℕ) → begins_any w ≡ true → (n : ℕ) × Unit {0} × (others : List ℕ) × (numeral n ≡ w ++ others)
    begins_is [] e = (0, tt, numeral 0, refl)
    begins_is (b ∷ w) e = (value_from 0 (b ∷ w), tt, [], numeral_value (b ∷ w) e ∙ sym (append-nil (b ∷ w)))

    begins_again : (n : ℕ) (w others : List ℕ) → Unit {0} → numeral n ≡ w ++ others → begins_any w ≡ true
    begins_again n [] others f e = refl
    begins_again n (b ∷ w) others f e = numeral_front n b w others e

-- ten times itself, so often
tens : ℕ → ℕ
tens zero = 1
tens (suc j) = 10 * tens j

tens_pos : (j : ℕ) → 0 < tens j
unfolding tens
tens_pos zero = omega arith
tens_pos (suc j) = let h = tens_pos j in omega arith

tens_mono : (i j : ℕ) → tens j ≤ tens (i + j)
unfolding tens
tens_mono zero j = subst (λ (k : ℕ). tens j ≤ tens k) (let s : j ≡ 0 + j = omega arith in s) (omega arith)
tens_mono (suc i) j = let h = tens_mono i j in subst (λ (k : ℕ). tens j ≤ tens k) (let s : suc (i + j) ≡ suc i + j = omega arith in s) (omega arith)

-- a number that begins with another one, and has some more digits
from_more : (v : ℕ) (t : List ℕ) → list_all is_digit t ≡ true → (v * tens (length t) ≤ value_from v t) × (value_from v t < (v + 1) * tens (length t))
unfolding tens
from_more v [] e = (omega arith, omega arith)
from_more v (b ∷ t) e =
    let h = both (is_digit b) (list_all is_digit t) e in
    let d = both (leb 48 b) (leb b 57) h.0 in
    let low : 48 ≤ b = leb-true 48 b d.0 in
    let high : b ≤ 57 = leb-true b 57 d.1 in
    let k = from_more (10 * v + (b - 48)) t h.1 in
    let p : tens (suc (length t)) ≡ 10 * tens (length t) = refl in
    let m0 : 10 * v + (b - 48) + 1 ≤ 10 * (v + 1) = omega arith in
    let m : (10 * v + (b - 48) + 1) * tens (length t) ≤ (10 * (v + 1)) * tens (length t) = mul-le-mul_right (tens (length t)) m0 in
    let l0 : 10 * v ≤ 10 * v + (b - 48) = omega arith in
    let l : (10 * v) * tens (length t) ≤ (10 * v + (b - 48)) * tens (length t) = mul-le-mul_right (tens (length t)) l0 in
    (omega (arith, k.0, l, p), omega (arith, k.1, m, p))

-- each number in between has these digits first
more_from : (j v n : ℕ) → v * tens j ≤ n → n < (v + 1) * tens j → (t : List ℕ) × (list_all is_digit t ≡ true) × (value_from v t ≡ n)
unfolding tens
more_from zero v n low high = ([], refl, omega arith)
more_from (suc j) v n low high =
    let p : tens (suc j) ≡ 10 * tens j = refl in
    let h = more_from j v (n / 10) (omega (arith, p)) (omega (arith, p)) in (
      h.0 ++ (48 + n % 10) ∷ [],
      all_digits-append h.0 ((48 + n % 10) ∷ []) h.1 (joins _ _ (digit (n % 10) (omega arith)) refl),
      value_from-append v h.0 ((48 + n % 10) ∷ []) ∙ ap (λ (m : ℕ). 10 * m + (48 + n % 10 - 48)) h.2 ∙ omega arith,
    )

reaches_is : (f low high from to : ℕ) → reaches f low high from to ≡ true → (j : ℕ) × (from * tens j ≤ high) × (low < to * tens j)
unfolding reaches tens
reaches_is zero low high from to e = absurd cc
reaches_is (suc f) low high from to e = elim (cases_lt high from) [
  | inl lt ↦ let k : false ≡ true = sym (ap (λ (s : Bool). cond s false (cond (ltb low to) true (reaches f low high (10 * from) (10 * to)))) (lt-ltb high from lt)) ∙ e in absurd cc
  | inr le ↦ elim (cases_lt low to) [
    | inl lt ↦ (0, omega arith, omega arith)
    | inr ge ↦
        let k = sym (ap (λ (s : Bool). cond s false (cond (ltb low to) true (reaches f low high (10 * from) (10 * to)))) (le-ltb high from le) ∙ ap (λ (s : Bool). cond s true (reaches f low high (10 * from) (10 * to))) (le-ltb low to ge)) ∙ e in
        let h = reaches_is f low high (10 * from) (10 * to) k in
        (suc h.0, omega (arith, h.1), omega (arith, h.2))
  ]
]

reaches_again : (f low high from to j : ℕ) → j < f → from * tens j ≤ high → low < to * tens j → reaches f low high from to ≡ true
unfolding reaches tens
reaches_again zero low high from to j lt le above = absurd (omega arith)
reaches_again (suc f) low high from to j lt le above =
    let q : 0 < tens j = tens_pos j in
    let m : from * 1 ≤ from * tens j = mul-le-mul_left from q in
    ap (λ (s : Bool). cond s false (cond (ltb low to) true (reaches f low high (10 * from) (10 * to)))) (le-ltb high from (omega (arith, m)))
    ∙ elim (cases_lt low to) as (λ _. cond (ltb low to) true (reaches f low high (10 * from) (10 * to)) ≡ true) [
      | inl l ↦ ap (λ (s : Bool). cond s true (reaches f low high (10 * from) (10 * to))) (lt-ltb low to l)
      | inr ge ↦ ap (λ (s : Bool). cond s true (reaches f low high (10 * from) (10 * to))) (le-ltb low to ge) ∙ later j lt le above ge (λ i. reaches_again f low high (10 * from) (10 * to) i)
    ]
  where
    later : (j : ℕ) → j < suc f → from * tens j ≤ high → low < to * tens j → to ≤ low → ((i : ℕ) → i < f → (10 * from) * tens i ≤ high → low < (10 * to) * tens i → reaches f low high (10 * from) (10 * to) ≡ true) → reaches f low high (10 * from) (10 * to) ≡ true
    later zero lt le above ge h = absurd (omega arith)
    later (suc j) lt le above ge h = h j (omega arith) (omega (arith, le)) (omega (arith, above))

-- fewer than twenty more digits
few_digits : (k n : ℕ) → tens k ≤ n → n < 100000000000000000000 → k < 20
unfolding tens
few_digits k n le lt = elim (cases_lt k 20) as (λ _. k < 20) [
  | inl l ↦ l
  | inr ge ↦ let m : 100000000000000000000 ≤ tens k = subst (λ (i : ℕ). 100000000000000000000 ≤ tens i) (let s : (k - 20) + 20 ≡ k = omega arith in s) (tens_mono (k - 20) 20) in absurd (omega (arith, m))
]

-- a number between two numbers
pub between_words : (low high end : ℕ) → low ≤ high → high < 100000000000000000000 → is_digit end ≡ false
    → Words ℕ (λ n. is_between low high n ≡ true) numeral end (number_named (is_between low high)) (begins_between low high)
unfolding begins_between
between_words low high end some small other = record {
  named_is = λ w n e. named_is (is_between low high) w n e;
  named_again = λ n f. named_again (is_between low high) n f;
  begins_is = begins_is;
  begins_again = begins_again;
  apart = λ n f. numeral_apart end n other;
}
  where
    inside : (n : ℕ) → low ≤ n → n ≤ high → is_between low high n ≡ true
    inside n a b = joins _ _ (le-leb low n a) (le-leb n high b)

    zero_or : (w : List ℕ) (s : Bool) → is_numeral w ≡ true → eqb (value_from 0 w) 0 ≡ s → cond s (eqb low 0) (reaches 20 low high (value_from 0 w) (value_from 0 w + 1)) ≡ true
        → (n : ℕ) × (is_between low high n ≡ true) × (others : List ℕ) × (numeral n ≡ w ++ others)
    zero_or w true is z e =
        let same : low ≡ 0 = eqb-true low 0 e in
        let v : value_from 0 w ≡ 0 = eqb-true _ _ z in
        (0, inside 0 (omega (arith, same)) (omega arith), [], ap numeral (sym v) ∙ numeral_value w is ∙ sym (append-nil w))
    zero_or w false is z e =
        let h = reaches_is 20 low high (value_from 0 w) (value_from 0 w + 1) e in
        let v = value_from 0 w in
        let pos : 0 < v = not_zero v z in
        let q : 0 < tens h.0 = tens_pos h.0 in
        let step : (v + 1) * tens h.0 ≡ v * tens h.0 + tens h.0 = omega arith in
        let n = max low (v * tens h.0) in
        let k = more_from h.0 v n (omega arith) (omega (arith, h.2, step)) in
        (n, inside n (omega arith) (omega (arith, h.1)), k.0, ap numeral (sym k.2) ∙ grow v k.0 pos k.1 ∙ ap (λ (xs : List ℕ). xs ++ k.0) (numeral_value w is))
      where
        not_zero : (v : ℕ) → eqb v 0 ≡ false → 0 < v
        not_zero zero z = let f : true ≡ false = z in absurd cc
        not_zero (suc v) z = omega arith

    begins_is : (w : List ℕ) → begins_between low high w ≡ true → (n : ℕ) × (is_between low high n ≡ true) × (others : List ℕ) × (numeral n ≡ w ++ others)
    begins_is [] e = (low, inside low (omega arith) some, numeral low, refl)
    begins_is (b ∷ w) e =
        let h = both (is_numeral (b ∷ w)) (cond (eqb (value_from 0 (b ∷ w)) 0) (eqb low 0) (reaches 20 low high (value_from 0 (b ∷ w)) (value_from 0 (b ∷ w) + 1))) e in
        zero_or (b ∷ w) (eqb (value_from 0 (b ∷ w)) 0) h.0 refl h.1

    begins_again : (n : ℕ) (w others : List ℕ) → is_between low high n ≡ true → numeral n ≡ w ++ others → begins_between low high w ≡ true
    begins_again n [] others f e = refl
    begins_again n (b ∷ w) others f e =
        let is = numeral_front n b w others e in
        let g = both (leb low n) (leb n high) f in
        let a : low ≤ n = leb-true low n g.0 in
        let c : n ≤ high = leb-true n high g.1 in
        joins _ _ is (cases (eqb (value_from 0 (b ∷ w)) 0) refl is a c)
      where
        v : ℕ
        v = value_from 0 (b ∷ w)

        cases : (s : Bool) → eqb (value_from 0 (b ∷ w)) 0 ≡ s → is_numeral (b ∷ w) ≡ true → low ≤ n → n ≤ high → cond s (eqb low 0) (reaches 20 low high (value_from 0 (b ∷ w)) (value_from 0 (b ∷ w) + 1)) ≡ true
        cases true z is a c =
            let v0 : value_from 0 (b ∷ w) ≡ 0 = eqb-true _ _ z in
            let one : b ∷ w ≡ 48 ∷ [] = sym (numeral_value (b ∷ w) is) ∙ ap numeral v0 ∙ numeral_digit 0 (omega arith) in
            let two : numeral n ≡ 48 ∷ others = e ∙ ap (λ (xs : List ℕ). xs ++ others) one in
            let h = first_digit n in
            let three : h.0 ∷ h.1 ≡ 48 ∷ others = sym h.2 ∙ two in
            let four : n ≡ 0 = h.3 cc in
            eqb-of (let five : low ≡ 0 = omega (arith, four, a) in five)
        cases false z is a c =
            let u = value_from 0 (b ∷ w) in
            let pos : 0 < u = not_zero u z in
            let digits = (all_digits-rest (b ∷ w) others (sym (ap (list_all is_digit) e) ∙ numeral_digits n)).1 in
            let same : value_from u others ≡ n = numeral_same _ _ (grow u others pos digits ∙ ap (λ (xs : List ℕ). xs ++ others) (numeral_value (b ∷ w) is) ∙ sym e) in
            let m = from_more u others digits in
            let q : 1 * tens (length others) ≤ u * tens (length others) = mul-le-mul_right (tens (length others)) pos in
            reaches_again 20 low high u (u + 1) (length others) (few_digits (length others) n (omega (arith, m.0, same, q)) (omega arith)) (omega (arith, m.0, same)) (omega (arith, m.1, same))
          where
            not_zero : (v : ℕ) → eqb v 0 ≡ false → 0 < v
            not_zero zero z = let f : true ≡ false = z in absurd cc
            not_zero (suc v) z = omega arith

-- a list begins with another
is_front_is : (w xs : List ℕ) → is_front w xs ≡ true → (others : List ℕ) × (xs ≡ w ++ others)
is_front_is [] xs e = (xs, refl)
is_front_is (c ∷ w) [] e = absurd cc
is_front_is (c ∷ w) (b ∷ xs) e = let h = both (eqb c b) (is_front w xs) e in let k = is_front_is w xs h.1 in let same : c ≡ b = eqb-true c b h.0 in (k.0, let m = k.1 in cc)

is_front_again : (w others : List ℕ) → is_front w (w ++ others) ≡ true
is_front_again [] others = refl
is_front_again (c ∷ w) others = joins _ _ (eqb-same c) (is_front_again w others)

or_true : (s : Bool) → (s || true) ≡ true
or_true true = refl
or_true false = refl

-- some element passes a test
some_is : (p : ℕ → Bool) (xs : List ℕ) → list_any p xs ≡ true → (x : ℕ) × (is_one_of xs x ≡ true) × (p x ≡ true)
some_is p [] e = absurd cc
some_is p (x ∷ xs) e = one (p x) refl e (some_is p xs)
  where
    one : (s : Bool) → p x ≡ s → (s || list_any p xs) ≡ true → (list_any p xs ≡ true → (y : ℕ) × (is_one_of xs y ≡ true) × (p y ≡ true)) → (y : ℕ) × (is_one_of (x ∷ xs) y ≡ true) × (p y ≡ true)
    one true f e rest = (x, ap (λ (s : Bool). s || list_any (λ k. eqb x k) xs) (eqb-same x), f)
    one false f e rest = let h = rest e in (h.0, ap (λ (s : Bool). eqb h.0 x || s) h.1 ∙ or_true (eqb h.0 x), h.2)

some_again : (p : ℕ → Bool) (xs : List ℕ) (x : ℕ) → is_one_of xs x ≡ true → p x ≡ true → list_any p xs ≡ true
some_again p [] x e f = absurd cc
some_again p (y ∷ xs) x e f = one (eqb x y) refl e (λ g. some_again p xs x g f)
  where
    one : (s : Bool) → eqb x y ≡ s → (s || is_one_of xs x) ≡ true → (is_one_of xs x ≡ true → list_any p xs ≡ true) → (p y || list_any p xs) ≡ true
    one true g e rest = ap (λ (s : Bool). s || list_any p xs) (ap p (sym (eqb-true x y g)) ∙ f)
    one false g e rest = ap (λ (s : Bool). p y || s) (rest e) ∙ or_true (p y)

-- a number of a list
pub one_of_words : (numbers : List ℕ) (end : ℕ) → is_digit end ≡ false → Words ℕ (λ n. is_one_of numbers n ≡ true) numeral end (number_named (is_one_of numbers)) (begins_one_of numbers)
one_of_words numbers end other = record {
  named_is = λ w n e. named_is (is_one_of numbers) w n e;
  named_again = λ n f. named_again (is_one_of numbers) n f;
  begins_is = λ w e. let h = some_is (λ k. is_front w (numeral k)) numbers e in let k = is_front_is w (numeral h.0) h.2 in (h.0, h.1, k.0, k.1);
  begins_again = λ n w others f e. some_again (λ k. is_front w (numeral k)) numbers n f (ap (is_front w) e ∙ is_front_again w others);
  apart = λ n f. numeral_apart end n other;
}
