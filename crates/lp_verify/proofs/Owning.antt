-- Where the code of a function lies.
use Rattle.std.proofs.Common.{◌≡◌, ◌≤◌, ◌<◌, ℕ, zero, suc, ◌+◌, ◌⊎◌, inl, inr, refl, sym, ◌∙◌, ap, subst, arith, Bool, true, false, cond, nat_eq, List, [], ◌∷◌, Option, Some, None, slice_get}
use Rattle.std.proofs.lemmas.Bool.{eq-eqb, eqb-true}
use Rattle.lp_code.specs.declared.program.FunRow.{FunRow}
use Rattle.lp_code.specs.declared.program.RawProgram.{RawProgram}
use Rattle.lp_code.specs.Owners.{first_of, begun, owner, RowsRise, AreRows, end_in, locals_at, locals_in, row_of}

pub below_or : (i n : ℕ) → i ≤ n → (i < n) ⊎ (i ≡ n)
below_or zero zero h = inr refl
below_or zero (suc n) h = inl (omega arith)
below_or (suc i) zero h = absurd (omega (arith, h))
below_or (suc i) (suc n) h = elim (below_or i n (omega (arith, h))) [ inl l ↦ inl (omega (arith, l)) | inr e ↦ inr (ap suc e) ]

pub le_or : (a b : ℕ) → (a ≤ b) ⊎ (b < a)
le_or zero b = inl (omega arith)
le_or (suc a) zero = inr (omega arith)
le_or (suc a) (suc b) = elim (le_or a b) [ inl l ↦ inl (omega (arith, l)) | inr l ↦ inr (omega (arith, l)) ]

-- behind rows that rise from a place none begins before it
none_begun : (n low k : ℕ) (rs : List FunRow) (p : ℕ) → RowsRise n low rs → p < low → begun k rs p ≡ 0
none_begun n low k [] p h l = refl
none_begun n low k (r ∷ rs) p h l =
    ap (λ z. first_of z (cond (nat_eq r.from p) (suc k) 0)) (none_begun n (suc r.from) (suc k) rs p h.3 (let a = h.0 in omega (arith, a, l)))
    ∙ go (nat_eq r.from p) refl
  where
    go : (b : Bool) → nat_eq r.from p ≡ b → cond (nat_eq r.from p) (suc k) 0 ≡ 0
    go true e = absurd (let z = eqb-true r.from p e in let a = h.0 in omega (arith, z, a, l))
    go false e = ap (λ z. cond z (suc k) 0) e

-- a row begins where it says
pub begun_at : (n low k : ℕ) (rs : List FunRow) (i : ℕ) (r : FunRow) → RowsRise n low rs → slice_get rs i ≡ Some r → begun k rs r.from ≡ suc (k + i)
begun_at n low k [] i r h e = cc
begun_at n low k (x ∷ rs) zero r h e =
    let s : x ≡ r = cc in
    let t : x.from ≡ r.from = ap (λ (z : FunRow). z.from) s in
    let q : k ≡ k + 0 = omega arith in
    ap (λ z. first_of z (cond (nat_eq x.from r.from) (suc k) 0)) (none_begun n (suc x.from) (suc k) rs r.from h.3 (omega (arith, t)))
    ∙ ap (λ z. cond z (suc k) 0) (eq-eqb x.from r.from t) ∙ ap suc q
begun_at n low k (x ∷ rs) (suc i) r h e = let q : suc k + i ≡ k + suc i = omega arith in
    ap (λ z. first_of z (cond (nat_eq x.from r.from) (suc k) 0)) (begun_at n (suc x.from) (suc k) rs i r h.3 e) ∙ ap suc q

pub record BeginsAt (rows : List FunRow) (k m p : ℕ) : Type 0 where
  pub place : ℕ
  pub row : FunRow
  pub there : slice_get rows place ≡ Some row
  pub from : row.from ≡ p
  pub number : m ≡ k + place

-- what begins at a place is a row that says so
pub begun_row : (k : ℕ) (rs : List FunRow) (p m : ℕ) → begun k rs p ≡ suc m → BeginsAt rs k m p
begun_row k [] p m e = cc
begun_row k (r ∷ rs) p m e = go (begun (suc k) rs p) refl e (begun_row (suc k) rs p m)
  where
    here : (b : Bool) → nat_eq r.from p ≡ b → cond b (suc k) 0 ≡ suc m → BeginsAt (r ∷ rs) k m p
    here true f g = record { place = 0; row = r; there = refl; from = eqb-true r.from p f; number = let z : suc k ≡ suc m = g in omega (arith, z) }
    here false f g = cc

    go : (b : ℕ) → begun (suc k) rs p ≡ b → first_of b (cond (nat_eq r.from p) (suc k) 0) ≡ suc m → (begun (suc k) rs p ≡ suc m → BeginsAt rs (suc k) m p) → BeginsAt (r ∷ rs) k m p
    go zero f g ih = here (nat_eq r.from p) refl g
    go (suc b) f g ih = let t = ih (f ∙ g) in record { place = suc t.place; row = t.row; there = t.there; from = t.from; number = let z = t.number in omega (arith, z) }

-- the function of a place begins at or before it, and none begins between
pub record Owns (rows : List FunRow) (m p : ℕ) : Type 0 where
  pub row : FunRow
  pub there : slice_get rows m ≡ Some row
  pub before : row.from ≤ p
  pub between : (q : ℕ) → row.from < q → q ≤ p → begun 0 rows q ≡ 0

owns_here : (rows : List FunRow) (p m : ℕ) → begun 0 rows p ≡ suc m → Owns rows m p
owns_here rows p m e = let t = begun_row 0 rows p m e in record {
  row = t.row;
  there = (let z : m ≡ t.place = (let y = t.number in omega (arith, y)) in ap (slice_get rows) z ∙ t.there);
  before = (let z = t.from in omega (arith, z));
  between = λ q a b. absurd (let z = t.from in omega (arith, z, a, b));
}

pub owns : (rows : List FunRow) (p m : ℕ) → owner rows p ≡ suc m → Owns rows m p
owns rows zero m e = owns_here rows 0 m e
owns rows (suc p) m e = go (begun 0 rows (suc p)) refl e (owns rows p m)
  where
    between : (o : Owns rows m p) → begun 0 rows (suc p) ≡ 0 → (q : ℕ) → o.row.from < q → q ≤ suc p → begun 0 rows q ≡ 0
    between o f q a b = elim (below_or q (suc p) b) [ inl l ↦ o.between q a (omega (arith, l)) | inr l ↦ ap (begun 0 rows) l ∙ f ]

    go : (b : ℕ) → begun 0 rows (suc p) ≡ b → first_of b (owner rows p) ≡ suc m → (owner rows p ≡ suc m → Owns rows m p) → Owns rows m (suc p)
    go zero f g ih = let o = ih g in record { row = o.row; there = o.there; before = (let z = o.before in omega (arith, z)); between = between o f }
    go (suc b) f g ih = owns_here rows (suc p) m (f ∙ g)

pub rise_of : (n : ℕ) (rows : List FunRow) → AreRows n rows → RowsRise n 0 rows
rise_of n [] h = tt
rise_of n (r ∷ rs) h = h.1

-- the function of its first place is the function
pub owner_first : (n : ℕ) (rows : List FunRow) (k : ℕ) (r : FunRow) → AreRows n rows → slice_get rows k ≡ Some r → owner rows r.from ≡ suc k
owner_first n rows k r h e = first r.from (begun_at n 0 0 rows k r (rise_of n rows h) e)
  where
    first : (p : ℕ) → begun 0 rows p ≡ suc (0 + k) → owner rows p ≡ suc k
    first zero f = f ∙ ap suc (let z : 0 + k ≡ k = omega arith in z)
    first (suc p) f = ap (λ z. first_of z (owner rows p)) f ∙ ap suc (let z : 0 + k ≡ k = omega arith in z)

pub rise_in : (n low : ℕ) (rs : List FunRow) (i : ℕ) (r : FunRow) → RowsRise n low rs → slice_get rs i ≡ Some r → (low ≤ r.from) × (r.from < n)
rise_in n low [] i r h e = cc
rise_in n low (x ∷ rs) zero r h e = let s : x ≡ r = cc in let P : FunRow → Type 0 = λ z. (low ≤ z.from) × (z.from < n) in subst P s (h.0, h.1)
rise_in n low (x ∷ rs) (suc i) r h e = let t = rise_in n (suc x.from) rs i r h.3 e in let a = h.0 in let b = t.0 in (omega (arith, a, b), t.1)

pub rise_next : (n low : ℕ) (rs : List FunRow) (i : ℕ) (r s : FunRow) → RowsRise n low rs → slice_get rs i ≡ Some r → slice_get rs (suc i) ≡ Some s → r.from < s.from
rise_next n low [] i r s h e g = cc
rise_next n low (x ∷ rs) zero r s h e g = let t : x ≡ r = cc in let a = rise_in n (suc x.from) rs 0 s h.3 g in let b = ap (λ (z : FunRow). z.from) t in let c = a.0 in omega (arith, c, b)
rise_next n low (x ∷ rs) (suc i) r s h e g = rise_next n (suc x.from) rs i r s h.3 e g

pub row_inside : (n : ℕ) (rows : List FunRow) (k : ℕ) (r : FunRow) → AreRows n rows → slice_get rows k ≡ Some r → r.from < n
row_inside n rows k r h e = (rise_in n 0 rows k r (rise_of n rows h) e).1

-- the places of a function lie from its first one up to its end
pub owner_from : (rows : List FunRow) (k : ℕ) (r : FunRow) (p : ℕ) → slice_get rows k ≡ Some r → owner rows p ≡ suc k → r.from ≤ p
owner_from rows k r p e o = let t = owns rows p k o in
    let s : Some t.row ≡ Some r = sym t.there ∙ e in
    let u : t.row ≡ r = cc in
    let b = t.before in let f = ap (λ (z : FunRow). z.from) u in omega (arith, b, f)

pub owner_end : (n : ℕ) (rows : List FunRow) (k : ℕ) (r : FunRow) (p : ℕ) → AreRows n rows → slice_get rows k ≡ Some r → owner rows p ≡ suc k → p < n → p < end_in n (slice_get rows (suc k))
owner_end n rows k r p h e o l = go (slice_get rows (suc k)) refl
  where
    early : (s : FunRow) → slice_get rows (suc k) ≡ Some s → s.from ≤ p → ⊥
    early s f q = let t = owns rows p k o in
        let u : Some t.row ≡ Some r = sym t.there ∙ e in
        let v : t.row ≡ r = cc in
        let w = ap (λ (z : FunRow). z.from) v in
        let x = rise_next n 0 rows k r s (rise_of n rows h) e f in
        let y = t.between s.from (omega (arith, w, x)) q in
        let z = begun_at n 0 0 rows (suc k) s (rise_of n rows h) f in
        let both : 0 ≡ suc (0 + suc k) = sym y ∙ z in omega (arith, both)

    go : (x : Option FunRow) → slice_get rows (suc k) ≡ x → p < end_in n x
    go None f = l
    go (Some s) f = elim (le_or s.from p) [ inl q ↦ absurd (early s f q) | inr q ↦ q ]

pub locals_of : (p : RawProgram) (k : ℕ) (r : FunRow) (at : ℕ) → slice_get p.funs k ≡ Some r → owner p.funs at ≡ suc k → locals_at p at ≡ r.locals
locals_of p k r at e o = ap (λ z. locals_in (row_of p.funs z)) o ∙ ap locals_in e
