-- That the program of a unit without faults is sound.
use Rattle.std.specs.Prelude.{◌≡◌, ◌≤◌, ℕ, List, length, map, None}
use Rattle.lp_tree.specs.declared.pragma.Pragmas.{Pragmas}
use Rattle.lp_tree.specs.Units.{ItemTree}
use Rattle.lp_code.specs.declared.program.RawProgram.{RawProgram}
use Rattle.lp_code.specs.declared.tables.Tables.{Tables}
use Rattle.lp_code.specs.Inside.{AreTables}
use Rattle.lp_code.specs.Programs.{IsProgram, code_of}
use Rattle.lp_layout.specs.Layout.{inherits, laid_slots}
use Rattle.lp_layout.specs.LayoutFaults.{layout_fault}
use Rattle.lp_language.specs.Resolve.{Heritage, own_variables}
use Rattle.lp_isa.specs.Programs.{own_functions}
use Rattle.lp_codegen_expr.specs.Names.{Lays}
use Rattle.lp_codegen_layout.specs.Laid.{plan_of, row_names}
use Rattle.lp_codegen_unit.specs.Rows.{initialisers, of_functions}
use Rattle.lp_codegen_unit.specs.Stands.{at}
use Rattle.lp_sound_laws.specs.Heights.{gains}
use Rattle.lp_sound_laws.specs.Parts.{AreSwitchesNamed}
use Rattle.lp_unit_laws.specs.Versions.{AreTablesOf, IsFine, variables_in}

-- the names of the rows in the tables of parents
abbrev pub rows_of : List Tables → List (List (List ℕ))
rows_of ts = map (λ t. row_names t.slots) ts

-- Wherever the names of its tables are laid out as a version's names are, a program has the functions of a unit, translated one
-- behind another from the first instruction to the last, and then its initialisers.
abbrev pub HasCode : List ItemTree → List Tables → List (List ℕ) → RawProgram → Type 0
HasCode items ts simuls p =
    (h : Heritage) → Lays (plan_of p.tables ts simuls) h (code_of p (rows_of ts))
    → of_functions (own_functions items) (initialisers (own_variables items) (variables_in ts)) p.funs (at h (code_of p (rows_of ts))) 0 (length p.instrs)

-- The tables of a unit whose layout has no fault have at most 65535 slots, of distinct names.
abbrev pub FaultlessTablesAreFine : Type 0
FaultlessTablesAreFine =
    (items : List ItemTree) (parents : List Tables) (t : Tables) → length parents ≡ inherits items → layout_fault items parents ≡ None → t.slots ≡ laid_slots items parents → AreTables t

-- A program that has the code of a unit without faults, with the unit's tables, is sound: where its stack may become as high as
-- all its instructions together make it, and each row of its list of switches is named by an instruction.
abbrev pub FaultlessIsSound : Type 0
FaultlessIsSound =
    (items : List ItemTree) (pragmas : Pragmas) (parents : List Tables) (simuls : List (List ℕ)) (p : RawProgram)
    → IsFine items pragmas parents simuls → AreTablesOf p.tables items parents → length parents ≤ length p.tables.parents
    → p.max_height ≡ gains p.instrs → AreSwitchesNamed p → HasCode items parents simuls p → IsProgram p
