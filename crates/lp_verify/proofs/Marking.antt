-- The function of each instruction is marked.
use Rattle.std.proofs.Common.{◌≡◌, ◌≤◌, ◌<◌, ℕ, zero, suc, ◌+◌, ◌-◌, refl, sym, ◌∙◌, ap, subst, arith, inl, inr, List, [], ◌∷◌, ◌++◌, length, take, get_or, slice_set, replicate, Bool, true, false, cond, nat_eq}
use Rattle.std.proofs.lemmas.Bool.{eq-eqb, eqb-true}
use Rattle.std.proofs.lemmas.List.{length-set, length-replicate}
use Rattle.lp_code.specs.declared.program.FunRow.{FunRow}
use Rattle.lp_code.specs.Owners.{first_of, begun, owner}
use Rattle.lp_verify.specs.Marks.{MarksBegins, MarksOwners}
use Rattle.lp_verify.proofs.Growing.{same_or}

first_assoc : (a b c : ℕ) → first_of (first_of a b) c ≡ first_of a (first_of b c)
first_assoc zero b c = refl
first_assoc (suc a) b c = refl

first_zero : (a : ℕ) → first_of a 0 ≡ a
first_zero zero = refl
first_zero (suc a) = refl

begun_more : (k : ℕ) (rs : List FunRow) (r : FunRow) (p : ℕ) → begun k (rs ++ (r ∷ [])) p ≡ first_of (cond (nat_eq r.from p) (suc (k + length rs)) 0) (begun k rs p)
begun_more k [] r p = let e : k ≡ k + 0 = omega arith in
    ap (λ n. cond (nat_eq r.from p) (suc n) 0) e ∙ sym (first_zero (cond (nat_eq r.from p) (suc (k + 0)) 0))
begun_more k (x ∷ rs) r p = let e : suc k + length rs ≡ k + length (x ∷ rs) = omega arith in
    ap (λ z. first_of z (cond (nat_eq x.from p) (suc k) 0)) (begun_more (suc k) rs r p)
    ∙ first_assoc (cond (nat_eq r.from p) (suc (suc k + length rs)) 0) (begun (suc k) rs p) (cond (nat_eq x.from p) (suc k) 0)
    ∙ ap (λ n. first_of (cond (nat_eq r.from p) (suc n) 0) (begun k (x ∷ rs) p)) e

take_one : (rows : List FunRow) (i : ℕ) (r : FunRow) → i < length rows → r ≡ get_or rows i r → take (suc i) rows ≡ take i rows ++ (r ∷ [])
take_one [] i r h e = absurd (omega (arith, h))
take_one (x ∷ xs) zero r h e = let s : x ≡ r = sym e in ap (λ z. z ∷ []) s
take_one (x ∷ xs) (suc i) r h e = ap (λ z. x ∷ z) (take_one xs i r (omega (arith, h)) e)

take_more : (rows : List FunRow) (i : ℕ) (r : FunRow) → i < length rows → r ≡ get_or rows i r → take (i + 1) rows ≡ take i rows ++ (r ∷ [])
take_more rows i r h e = let f : i + 1 ≡ suc i = omega arith in ap (λ n. take n rows) f ∙ take_one rows i r h e

long : (rows : List FunRow) (i : ℕ) → i ≤ length rows → length (take i rows) ≡ i
long [] zero h = refl
long [] (suc i) h = absurd (omega (arith, h))
long (x ∷ xs) zero h = refl
long (x ∷ xs) (suc i) h = ap suc (long xs i (omega (arith, h)))

set_here : (xs : List ℕ) (i v : ℕ) → i < length xs → get_or (slice_set xs i v) i 0 ≡ v
set_here [] i v h = absurd (omega (arith, h))
set_here (x ∷ xs) zero v h = refl
set_here (x ∷ xs) (suc i) v h = set_here xs i v (omega (arith, h))

set_there : (xs : List ℕ) (i p v : ℕ) → (p ≡ i → ⊥) → get_or (slice_set xs i v) p 0 ≡ get_or xs p 0
set_there [] i p v n = refl
set_there (x ∷ xs) zero zero v n = absurd (n refl)
set_there (x ∷ xs) zero (suc p) v n = refl
set_there (x ∷ xs) (suc i) zero v n = refl
set_there (x ∷ xs) (suc i) (suc p) v n = set_there xs i p v (λ e. n (ap suc e))

not_same : (a b : ℕ) → (b ≡ a → ⊥) → nat_eq a b ≡ false
not_same a b n = go (nat_eq a b) refl
  where
    go : (c : Bool) → nat_eq a b ≡ c → nat_eq a b ≡ false
    go true e = absurd (n (sym (eqb-true a b e)))
    go false e = e

get_zeros : (n p : ℕ) → get_or (replicate {A = ℕ} n 0) p 0 ≡ 0
get_zeros zero p = refl
get_zeros (suc n) zero = refl
get_zeros (suc n) (suc p) = get_zeros n p

pub marks_none : (n : ℕ) (rows : List FunRow) (marks : List ℕ) → marks ≡ replicate n 0 → MarksBegins n (take 0 rows) marks
marks_none n rows marks e = record { size = ap length e ∙ length-replicate n 0; each = λ p h. ap (λ z. get_or z p 0) e ∙ get_zeros n p ∙ sym (none rows p) }
  where
    none : (rows : List FunRow) (p : ℕ) → begun 0 (take 0 rows) p ≡ 0
    none [] p = refl
    none (x ∷ xs) p = refl

pub marks_more : (n : ℕ) (rows : List FunRow) (marks : List ℕ) (i : ℕ) (r : FunRow) → i < length rows → r ≡ get_or rows i r → MarksBegins n (take i rows) marks
    → MarksBegins n (take (i + 1) rows) (slice_set marks r.from (i + 1))
marks_more n rows marks i r h e m = record {
  size = length-set marks r.from (i + 1) ∙ m.size;
  each = λ p l. each p l ∙ sym (ap (λ z. begun 0 z p) (take_more rows i r h e) ∙ begun_more 0 (take i rows) r p);
}
  where
    each : (p : ℕ) → p < n → get_or (slice_set marks r.from (i + 1)) p 0 ≡ first_of (cond (nat_eq r.from p) (suc (0 + length (take i rows))) 0) (begun 0 (take i rows) p)
    each p l = elim (same_or p r.from) [
      | inl q ↦ ap (λ z. get_or (slice_set marks r.from (i + 1)) z 0) q
          ∙ set_here marks r.from (i + 1) (let s = m.size in omega (arith, l, q, s))
          ∙ (let s : i + 1 ≡ suc (0 + length (take i rows)) = (let t = long rows i (omega (arith, h)) in omega (arith, t)) in s)
          ∙ ap (λ z. first_of (cond z (suc (0 + length (take i rows))) 0) (begun 0 (take i rows) p)) (sym (eq-eqb r.from p (sym q)))
      | inr q ↦ set_there marks r.from p (i + 1) q ∙ m.each p l
          ∙ ap (λ z. first_of (cond z (suc (0 + length (take i rows))) 0) (begun 0 (take i rows) p)) (sym (not_same r.from p q))
    ]

take_all : (rows : List FunRow) (i : ℕ) → length rows ≤ i → take i rows ≡ rows
take_all [] zero h = refl
take_all [] (suc i) h = refl
take_all (x ∷ xs) zero h = absurd (omega (arith, h))
take_all (x ∷ xs) (suc i) h = ap (λ z. x ∷ z) (take_all xs i (omega (arith, h)))

pub marks_all : (n : ℕ) (rows : List FunRow) (marks : List ℕ) (i : ℕ) → length rows ≤ i → MarksBegins n (take i rows) marks → MarksBegins n rows marks
marks_all n rows marks i h m = subst (λ z. MarksBegins n z marks) (take_all rows i h) m

-- the marks below a place are owners already
pub record Spreads (n : ℕ) (rows : List FunRow) (at : ℕ) (marks : List ℕ) : Type 0 where
  pub size : length marks ≡ n
  pub behind : (p : ℕ) → p < at → p < n → get_or marks p 0 ≡ owner rows p
  pub ahead : (p : ℕ) → at ≤ p → p < n → get_or marks p 0 ≡ begun 0 rows p

pub spreads_first : (n : ℕ) (rows : List FunRow) (marks : List ℕ) → MarksBegins n rows marks → Spreads n rows 1 marks
spreads_first n rows marks m = record { size = m.size; behind = first; ahead = λ p h l. m.each p l }
  where
    first : (p : ℕ) → p < 1 → p < n → get_or marks p 0 ≡ owner rows p
    first zero h l = m.each 0 l
    first (suc p) h l = absurd (omega (arith, h))

pub spreads_more : (n : ℕ) (rows : List FunRow) (at : ℕ) (marks : List ℕ) → 1 ≤ at → at < n → Spreads n rows at marks
    → Spreads n rows (at + 1) (slice_set marks at (first_of (get_or marks at 0) (get_or marks (at - 1) 0)))
spreads_more n rows zero marks h l m = absurd (omega (arith, h))
spreads_more n rows (suc at) marks h l m = record {
  size = length-set marks (suc at) _ ∙ m.size;
  behind = λ p a b. elim (same_or p (suc at)) [
    | inl q ↦ ap (λ z. get_or (slice_set marks (suc at) (first_of (get_or marks (suc at) 0) (get_or marks (suc at - 1) 0))) z 0) q ∙ set_here marks (suc at) (first_of (get_or marks (suc at) 0) (get_or marks (suc at - 1) 0)) (let s = m.size in omega (arith, l, s)) ∙ here ∙ ap (owner rows) (sym q)
    | inr q ↦ set_there marks (suc at) p (first_of (get_or marks (suc at) 0) (get_or marks (suc at - 1) 0)) q ∙ m.behind p (omega (arith, a, q)) b
  ];
  ahead = λ p a b. set_there marks (suc at) p (first_of (get_or marks (suc at) 0) (get_or marks (suc at - 1) 0)) (λ q. omega (arith, q, a)) ∙ m.ahead p (omega (arith, a)) b;
}
  where
    here : first_of (get_or marks (suc at) 0) (get_or marks (suc at - 1) 0) ≡ owner rows (suc at)
    here = let e : suc at - 1 ≡ at = omega arith in
        ap (λ z. first_of z (get_or marks (suc at - 1) 0)) (m.ahead (suc at) (omega arith) l)
        ∙ ap (λ z. first_of (begun 0 rows (suc at)) (get_or marks z 0)) e
        ∙ ap (λ z. first_of (begun 0 rows (suc at)) z) (m.behind at (omega arith) (omega (arith, l)))

pub spreads_all : (n : ℕ) (rows : List FunRow) (at m : ℕ) (marks : List ℕ) → m ≤ at → m ≡ n → Spreads n rows at marks → MarksOwners n rows marks
spreads_all n rows at m marks h e s = record { size = s.size; each = λ p l. s.behind p (omega (arith, l, h, e)) l }

pub marks_more_at : (n : ℕ) (rows : List FunRow) (marks : List ℕ) (i : ℕ) (r : FunRow) → i < length rows → r ≡ get_or rows i r → MarksBegins n (take i rows) marks
    → MarksBegins n (take (i + 1) rows) (slice_set marks (get_or rows i r).from (i + 1))
marks_more_at n rows marks i r h e m = let P : FunRow → Type 0 = λ z. MarksBegins n (take (i + 1) rows) (slice_set marks z.from (i + 1)) in subst P e (marks_more n rows marks i r h e m)
