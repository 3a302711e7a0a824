-- Marks stay, and stand for what is needed.
use Rattle.std.proofs.Common.{◌≡◌, ◌∙◌, ◌<◌, ◌≤◌, ◌+◌, ◌⊎◌, inl, inr, ℕ, zero, suc, Bool, true, false, List, [], ◌∷◌, ◌++◌, refl, sym, ap, subst, arith, length, get_or, set, replicate, if◌then◌else◌}
use Rattle.std.specs.Prelude.{nat_lt}
use Rattle.std.specs.List.{Contains}
use Rattle.std.proofs.lemmas.Bool.{ltb-false}
use Rattle.std.proofs.lemmas.List.{get_or-set_other, get_or-set_same, length-set}
use Rattle.lp_values.specs.declared.id.ProgId.{ProgId}
use Rattle.lp_keeping.specs.Marks.{count, is_marked, with_mark, with_marks}

-- two numbers are one, or are not
pub one_or_two : (i j : ℕ) → (i ≡ j) ⊎ (i ≡ j → ⊥)
one_or_two zero zero = inl refl
one_or_two zero (suc j) = inr (λ e. omega (arith, e))
one_or_two (suc i) zero = inr (λ e. omega (arith, e))
one_or_two (suc i) (suc j) = elim (one_or_two i j) [ inl e ↦ inl (ap suc e) | inr n ↦ inr (λ e. n (omega (arith, e))) ]

-- the versions of more are needed
pub marks_append : (marks : List Bool) (ps qs : List ProgId) → with_marks marks (ps ++ qs) ≡ with_marks (with_marks marks ps) qs
marks_append marks [] qs = refl
marks_append marks (p ∷ ps) qs = marks_append (with_mark marks p) ps qs

-- there are as many marks as before
mark_len : (marks : List Bool) (p : ProgId) → length (with_mark marks p) ≡ length marks
mark_len marks p = by (nat_lt p.0 (length marks))
  where
    by : (b : Bool) → length (if b then set marks p.0 true else marks) ≡ length marks
    by true = length-set marks p.0 true
    by false = refl

pub marks_len : (marks : List Bool) (ps : List ProgId) → length (with_marks marks ps) ≡ length marks
marks_len marks [] = refl
marks_len marks (p ∷ ps) = marks_len (with_mark marks p) ps ∙ mark_len marks p

-- no mark is set yet
pub none_at : (n k : ℕ) → is_marked (replicate n false) k ≡ true → ⊥
none_at zero k h = cc
none_at (suc n) zero h = cc
none_at (suc n) (suc k) h = none_at n k h

-- a mark that is set has its number
pub within : (marks : List Bool) (n : ℕ) → is_marked marks n ≡ true → n < length marks
within [] n h = absurd cc h
within (b ∷ bs) zero h = omega arith
within (b ∷ bs) (suc n) h = let l : n < length bs = within bs n h in omega arith

-- one more mark: it is set, what was set is set still, and nothing else is
mark_here : (marks : List Bool) (p : ProgId) → p.0 < length marks → is_marked (with_mark marks p) p.0 ≡ true
mark_here marks p l = by (nat_lt p.0 (length marks)) refl
  where
    by : (b : Bool) → nat_lt p.0 (length marks) ≡ b → get_or (if b then set marks p.0 true else marks) p.0 false ≡ true
    by true e = get_or-set_same marks p.0 true false l
    by false e = let h = ltb-false p.0 (length marks) e in absurd (omega (arith, h, l))

mark_more : (marks : List Bool) (p : ProgId) (n : ℕ) → is_marked marks n ≡ true → is_marked (with_mark marks p) n ≡ true
mark_more marks p n h = by (nat_lt p.0 (length marks))
  where
    l : n < length marks
    l = within marks n h

    by : (b : Bool) → get_or (if b then set marks p.0 true else marks) n false ≡ true
    by true = elim (one_or_two n p.0) [
      | inl e ↦ subst (λ k. get_or (set marks k true) n false ≡ true) e (get_or-set_same marks n true false l)
      | inr d ↦ get_or-set_other marks p.0 n true false d ∙ h
    ]
    by false = h

mark_was : (marks : List Bool) (p : ProgId) (n : ℕ) → is_marked (with_mark marks p) n ≡ true → (is_marked marks n ≡ true) ⊎ (p.0 ≡ n)
mark_was marks p n h = by (nat_lt p.0 (length marks)) h
  where
    by : (b : Bool) → get_or (if b then set marks p.0 true else marks) n false ≡ true → (is_marked marks n ≡ true) ⊎ (p.0 ≡ n)
    by true h = elim (one_or_two n p.0) [
      | inl e ↦ inr (sym e)
      | inr d ↦ inl (sym (get_or-set_other marks p.0 n true false d) ∙ h)
    ]
    by false h = inl h

-- the same of some
pub marks_more : (marks : List Bool) (ps : List ProgId) (n : ℕ) → is_marked marks n ≡ true → is_marked (with_marks marks ps) n ≡ true
marks_more marks [] n h = h
marks_more marks (p ∷ ps) n h = marks_more (with_mark marks p) ps n (mark_more marks p n h)

pub marks_here : (marks : List Bool) (ps : List ProgId) (p : ProgId) → Contains ps p → p.0 < length marks → is_marked (with_marks marks ps) p.0 ≡ true
marks_here marks ps p c l = at marks ps c.0 c.1 c.2 l
  where
    at : (marks : List Bool) (ps : List ProgId) (i : ℕ) → i < length ps → get_or ps i p ≡ p → p.0 < length marks → is_marked (with_marks marks ps) p.0 ≡ true
    at marks [] i k e l = absurd (none i k)
      where
        none : (i : ℕ) → i < 0 → ⊥
        none i k = omega arith
    at marks (q ∷ ps) zero k e l = marks_more (with_mark marks q) ps p.0 (subst (λ x. is_marked (with_mark marks x) p.0 ≡ true) (sym e) (mark_here marks p l))
    at marks (q ∷ ps) (suc i) k e l = at (with_mark marks q) ps i (omega (arith, k)) e (subst (λ n. p.0 < n) (sym (mark_len marks q)) l)

-- What is marked has a property.
abbrev pub MarkedHave : (ProgId → Type 0) → List Bool → Type 0
MarkedHave P marks = (n : ℕ) → is_marked marks n ≡ true → P (record { 0 = n })

pub marks_have : (P : ProgId → Type 0) (marks : List Bool) (ps : List ProgId) → MarkedHave P marks → ((p : ProgId) → Contains ps p → P p) → MarkedHave P (with_marks marks ps)
marks_have P marks [] h f = h
marks_have P marks (p ∷ ps) h f = marks_have P (with_mark marks p) ps one (λ q c. f q (suc c.0, (let l = c.1 in omega (arith, l)), c.2))
  where
    one : MarkedHave P (with_mark marks p)
    one n e = elim (mark_was marks p n e) [ inl a ↦ h n a | inr s ↦ subst (λ k. P (record { 0 = k })) s (f p (0, omega arith, refl)) ]

-- Marks grow.
pub record HaveGrown (xs ys : List Bool) : Type 0 where
  pub more : count xs ≤ count ys
  pub same : count ys ≡ count xs → ys ≡ xs

pub grown : (xs ys : List Bool) → length ys ≡ length xs → ((n : ℕ) → is_marked xs n ≡ true → is_marked ys n ≡ true) → HaveGrown xs ys
grown [] [] e h = record { more = omega arith; same = λ q. refl }
grown [] (y ∷ ys) e h = absurd cc e
grown (x ∷ xs) [] e h = absurd cc e
grown (x ∷ xs) (y ∷ ys) e h = step x y (h 0) (grown xs ys (omega (arith, e)) (λ n. h (suc n)))
  where
    over : (a b : ℕ) → a ≤ b → 1 + b ≡ 0 + a → ⊥
    over a b l q = omega (arith, l, q)

    step : (a b : Bool) → (a ≡ true → b ≡ true) → HaveGrown xs ys → HaveGrown (a ∷ xs) (b ∷ ys)
    step true true g rest = let m = rest.more in record { more = omega (arith, m); same = λ q. ap (λ ms. true ∷ ms) (rest.same (omega (arith, q))) }
    step true false g rest = absurd cc (g refl)
    step false true g rest = let m = rest.more in record { more = omega (arith, m); same = λ q. absurd (over (count xs) (count ys) m q) }
    step false false g rest = let m = rest.more in record { more = omega (arith, m); same = λ q. ap (λ ms. false ∷ ms) (rest.same (omega (arith, q))) }

pub count_within : (marks : List Bool) → count marks ≤ length marks
count_within [] = omega arith
count_within (true ∷ bs) = let h = count_within bs in omega (arith, h)
count_within (false ∷ bs) = let h = count_within bs in omega (arith, h)
