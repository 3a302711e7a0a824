-- Sound programs.
use Rattle.std.specs.Prelude.{◌≡◌, ℕ, true, List, Some, IsSome, slice_get, length, map, All}
use Rattle.lp_instr.specs.declared.instr.Instr.{Instr}
use Rattle.lp_instr.specs.declared.instr.Instr.TheVariants.{CallFixed}
use Rattle.lp_instr.specs.Code.{Code, Table, parent_row}
use Rattle.lp_instr.specs.Sound.{Bounds, Shapes, IsSound}
use Rattle.lp_code.specs.declared.program.RawProgram.{RawProgram}
use Rattle.lp_code.specs.declared.program.SwitchRow.{SwitchRow}
use Rattle.lp_code.specs.declared.program.FunRow.{FunRow}
use Rattle.lp_code.specs.declared.tables.Slot.{Slot}
use Rattle.lp_code.specs.Owners.{AreRows, end_of}
use Rattle.lp_code.specs.Inside.{stands, IsSwitch, AreTables}

abbrev pub table_of : SwitchRow → Table
table_of r = record { cases = r.cases; other = r.other }

-- what the instructions of a program speak of, with the names in the tables of its parents
abbrev pub code_of : RawProgram → List (List (List ℕ)) → Code
code_of p parents = record { instrs = p.instrs; texts = p.consts; switches = map table_of p.switches; rows = map (λ (s : Slot). s.name) p.tables.slots; parents = parents }

abbrev pub bounds_of : RawProgram → FunRow → Bounds
bounds_of p r = record { locals = r.locals; variables = length p.tables.vars; max_height = p.max_height }

-- each call of a parent's row finds it in these tables
abbrev pub FindsRows : RawProgram → List (List (List ℕ)) → Type 0
FindsRows p parents = (at parent j n : ℕ) → slice_get p.instrs at ≡ Some (CallFixed parent j n) → IsSome (parent_row (code_of p parents) parent j)

-- the paths through a function reach each instruction in one shape, and find there what they need
pub record IsFunction (p : RawProgram) (k : ℕ) (r : FunRow) : Type 0 where
  pub shapes : Shapes
  pub sound : (parents : List (List (List ℕ))) → FindsRows p parents → IsSound (code_of p parents) (bounds_of p r) r.from (end_of p k) shapes

abbrev pub AreFunctions : RawProgram → Type 0
AreFunctions p = (k : ℕ) (r : FunRow) → slice_get p.funs k ≡ Some r → IsFunction p k r

-- A program is sound where all that it names is there, and each of its functions is sound.
pub record IsProgram (p : RawProgram) : Type 0 where
  pub inside : (at : ℕ) (i : Instr) → slice_get p.instrs at ≡ Some i → stands p at i ≡ true
  pub functions : AreFunctions p
  pub rows : AreRows (length p.instrs) p.funs
  pub switches : All (IsSwitch p) p.switches
  pub tables : AreTables p.tables
