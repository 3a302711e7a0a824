-- What instructions speak of: the instructions of a program, its texts and switches, and the names of its rows.
use Rattle.std.specs.Prelude.{ℕ, List, [], Option, None, Some, slice_get}
use Rattle.lp_instr.specs.declared.instr.Instr.{Instr}
use Rattle.lp_instr.specs.declared.instr.Case.{Case}
use Rattle.lp_instr.specs.declared.instr.Case.TheVariants as cases

-- a row of the list of switches: its labels in order, each with the place to go on at, and the place where none fits
pub record Table : Type 0 where
  pub cases : List Case
  pub other : ℕ

-- What a program's instructions speak of: the instructions of all its functions, its texts, its switches, the names of
-- the rows of its own table, and of those of each parent's table.
pub record Code : Type 0 where
  pub instrs : List Instr
  pub texts : List (List ℕ)
  pub switches : List Table
  pub rows : List (List ℕ)
  pub parents : List (List (List ℕ))

-- an open catch: where it goes on, and the height of the stack there
pub record Catching : Type 0 where
  pub place : ℕ
  pub height : ℕ

abbrev pub or_none : {A : Type 0} → Option (List A) → List A
or_none None = []
or_none (Some xs) = xs

-- the name of a row of a parent's table
abbrev pub parent_row : Code → ℕ → ℕ → Option (List ℕ)
parent_row code k j = slice_get (or_none (slice_get code.parents k)) j

-- where a label leads
abbrev pub case_place : Case → ℕ
case_place (cases.Ints a b to) = to
case_place (cases.Text k to) = to
