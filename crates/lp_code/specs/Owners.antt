-- To which function an instruction belongs.
use Rattle.std.specs.Prelude.{◌≡◌, ◌<◌, ◌≤◌, ℕ, zero, suc, nat_eq, cond, ⊤, List, [], ◌∷◌, Option, Some, None, slice_get, length}
use Rattle.lp_code.specs.declared.program.FunRow.{FunRow}
use Rattle.lp_code.specs.declared.program.RawProgram.{RawProgram}

abbrev pub first_of : ℕ → ℕ → ℕ
first_of zero b = b
first_of (suc a) b = suc a

-- the last function that begins at a place, counted behind k others from 1, or 0 where none does
abbrev pub begun : ℕ → List FunRow → ℕ → ℕ
begun k [] p = 0
begun k (r ∷ rs) p = first_of (begun (suc k) rs p) (cond (nat_eq r.from p) (suc k) 0)

-- The function of an instruction: the one that begins there, or at the nearest place before. It is counted from 1, and 0
-- is none.
abbrev pub owner : List FunRow → ℕ → ℕ
owner rows zero = begun 0 rows zero
owner rows (suc p) = first_of (begun 0 rows (suc p)) (owner rows p)

abbrev pub row_of : List FunRow → ℕ → Option FunRow
row_of rows zero = None
row_of rows (suc k) = slice_get rows k

abbrev pub locals_in : Option FunRow → ℕ
locals_in None = 0
locals_in (Some r) = r.locals

-- how many locals the function of an instruction has
abbrev pub locals_at : RawProgram → ℕ → ℕ
locals_at p at = locals_in (row_of p.funs (owner p.funs at))

-- each row begins behind a place and inside the code, and its parameters are among its locals
abbrev pub RowsRise : ℕ → ℕ → List FunRow → Type 0
RowsRise n low [] = ⊤
RowsRise n low (r ∷ rs) = (low ≤ r.from) × (r.from < n) × (r.params ≤ r.locals) × RowsRise n (suc r.from) rs

-- The first function begins with the first instruction, and each other one behind the one before. Where there is no
-- function there is no instruction.
abbrev pub AreRows : ℕ → List FunRow → Type 0
AreRows n [] = n ≡ 0
AreRows n (r ∷ rs) = (r.from ≡ 0) × RowsRise n 0 (r ∷ rs)

-- where the code of a function ends
abbrev pub end_in : ℕ → Option FunRow → ℕ
end_in n None = n
end_in n (Some r) = r.from

abbrev pub end_of : RawProgram → ℕ → ℕ
end_of p k = end_in (length p.instrs) (slice_get p.funs (suc k))
