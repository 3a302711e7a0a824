-- To which row each instruction belongs.
use Rattle.std.proofs.Common.{◌≡◌, ℕ, zero, suc, ◌≤◌, ◌<◌, List, [], ◌∷◌, length, Some, refl, sym, ap, ◌∙◌, subst, arith}
use Rattle.std.specs.Prelude.{slice_get}
use Rattle.lp_code.specs.declared.program.FunRow.{FunRow}
use Rattle.lp_code.specs.declared.program.RawProgram.{RawProgram}
use Rattle.lp_code.specs.Owners.{AreRows, RowsRise, begun, end_in, first_of, owner}
use Rattle.lp_verify.proofs.Owning.{owner_end, owner_first, owns}
use Rattle.lp_sound_laws.specs.Parts.{AreParts, IsPart}

parts_order : (p : RawProgram) (ts : List (List (List ℕ))) (rs : List FunRow) (from to : ℕ) → AreParts p ts rs from to → from ≤ to
parts_order p ts [] from to h = omega (arith, h)
parts_order p ts (r ∷ rs) from to h = let a = h.1.some in let b = parts_order p ts rs h.0 to h.2 in omega (arith, a, b)

rise : (p : RawProgram) (ts : List (List (List ℕ))) (rs : List FunRow) (n low from : ℕ) → low ≤ from → AreParts p ts rs from n → RowsRise n low rs
rise p ts [] n low from l h = tt
rise p ts (r ∷ rs) n low from l h =
    let a = h.1.begins in
    let c = h.1.some in
    let d = parts_order p ts rs h.0 n h.2 in
    (omega (arith, a, l), omega (arith, a, c, d), h.1.params, rise p ts rs n (suc r.from) h.0 (omega (arith, a, c)) h.2)

-- functions begin at rising places
pub rows : (p : RawProgram) (ts : List (List (List ℕ))) (rs : List FunRow) (n : ℕ) → AreParts p ts rs 0 n → AreRows n rs
rows p ts [] n h = h
rows p ts (r ∷ rs) n h = (h.1.begins, rise p ts (r ∷ rs) n 0 0 (omega arith) h)

-- each row is that of the code up to the next
pub part_at : (p : RawProgram) (ts : List (List (List ℕ))) (rs : List FunRow) (from to k : ℕ) (r : FunRow) → AreParts p ts rs from to → slice_get rs k ≡ Some r → IsPart p ts r r.from (end_in to (slice_get rs (suc k)))
part_at p ts [] from to k r h e = absurd cc
part_at p ts (x ∷ rs) from to zero r h e =
    let same : x ≡ r = cc in
    let at : from ≡ r.from = sym h.1.begins ∙ ap (λ (y : FunRow). y.from) same in
    let end : h.0 ≡ end_in to (slice_get rs 0) = next rs h.2 in
    subst (λ n. IsPart p ts r n (end_in to (slice_get rs 0))) at (subst (IsPart p ts r from) end (subst (λ y. IsPart p ts y from h.0) same h.1))
  where
    next : (rs : List FunRow) → AreParts p ts rs h.0 to → h.0 ≡ end_in to (slice_get rs 0)
    next [] g = sym g
    next (y ∷ rs) g = sym g.1.begins
part_at p ts (x ∷ rs) from to (suc k) r h e = part_at p ts rs h.0 to k r h.2 e

-- the row of an instruction
pub record HasRow (p : RawProgram) (at : ℕ) : Type 0 where
  pub number : ℕ
  pub row : FunRow
  pub there : slice_get p.funs number ≡ Some row
  pub owner : owner p.funs at ≡ suc number
  pub before : row.from ≤ at
  pub inside : at < end_in (length p.instrs) (slice_get p.funs (suc number))

none_before : (rs : List FunRow) (at : ℕ) → owner rs at ≡ 0 → owner rs 0 ≡ 0
none_before rs zero e = e
none_before rs (suc at) e = none_before rs at (go (begun 0 rs (suc at)) e)
  where
    go : (n : ℕ) → first_of n (owner rs at) ≡ 0 → owner rs at ≡ 0
    go zero f = f
    go (suc n) f = absurd (omega (arith, f))

first_owned : (n : ℕ) (rs : List FunRow) → 0 < n → AreRows n rs → owner rs 0 ≡ 1
first_owned n [] l h = absurd (omega (arith, l, h))
first_owned n (r ∷ rs) l h = subst (λ q. owner (r ∷ rs) q ≡ 1) h.0 (owner_first n (r ∷ rs) 0 r h refl)

pub has_row : (p : RawProgram) (at : ℕ) → at < length p.instrs → AreRows (length p.instrs) p.funs → HasRow p at
has_row p at l h = go (owner p.funs at) refl
  where
    go : (n : ℕ) → owner p.funs at ≡ n → HasRow p at
    go zero e =
        let a = none_before p.funs at e in
        let b = first_owned (length p.instrs) p.funs (omega (arith, l)) h in
        absurd (omega (arith, a, b))
    go (suc k) e =
        let o = owns p.funs at k e in
        record { number = k; row = o.row; there = o.there; owner = e; before = o.before; inside = owner_end (length p.instrs) p.funs k o.row at h o.there e l }
