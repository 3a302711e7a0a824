-- What it says that a program is the translation of a unit.
use Rattle.std.specs.Prelude.{◌≡◌, ℕ, List, map, length}
use Rattle.lp_tree.specs.Units.{ItemTree}
use Rattle.lp_code.specs.declared.program.RawProgram.{RawProgram}
use Rattle.lp_code.specs.declared.tables.Tables.{Tables}
use Rattle.lp_code.specs.Programs.{code_of}
use Rattle.lp_language.specs.Resolve.{Heritage, own_variables, parents_of, variables_before, version_of}
use Rattle.lp_isa.specs.Programs.{AreFuns, StandsForVersion, own_functions}
use Rattle.lp_part_laws.specs.Versions.{program_of, row_of}
use Rattle.lp_codegen_expr.specs.Names.{Lays}
use Rattle.lp_codegen_layout.specs.Laid.{plan_of}
use Rattle.lp_codegen_unit.specs.Rows.{initialisers, of_functions}
use Rattle.lp_codegen_unit.specs.Stands.{at}
use Rattle.lp_sound_laws.specs.Heights.{gains}
use Rattle.lp_sound_laws.specs.Parts.{AreSwitchesNamed}
use Rattle.lp_unit_laws.specs.Units.{rows_of}
use Rattle.lp_unit_laws.specs.Versions.{IsVersion, variables_in}

-- What is made of a unit before it is verified: it has these tables; and wherever the names of its tables are laid out as a
-- version's names are, its functions are translated one behind another from the first instruction to the last, and then its
-- initialisers. Its stack may become as high as all its instructions together make it, and an instruction names each row of its
-- list of switches.
pub record IsGenerated (items : List ItemTree) (t : Tables) (ts : List Tables) (simuls : List (List ℕ)) (p : RawProgram) : Type 0 where
  pub tables : p.tables ≡ t
  pub height : p.max_height ≡ gains p.instrs
  pub named : AreSwitchesNamed p
  pub code : (h : Heritage) → Lays (plan_of t ts simuls) h (code_of p (rows_of ts))
      → of_functions (own_functions items) (initialisers (own_variables items) (variables_in ts)) p.funs (at h (code_of p (rows_of ts))) 0 (length p.instrs)

-- an inheritance tree is that of a version of a unit with such parents
pub record IsOfUnit (is : List ItemTree) (ts : List Tables) (h : Heritage) : Type 0 where
  pub items : (version_of h).items ≡ is
  pub first : variables_before (parents_of h) ≡ variables_in ts

-- A program is the translation of a unit over parents with these tables: wherever the names of its tables are laid out as
-- those of a version of the unit are, its rows of functions are those of the version's functions, and of its initialisers.
abbrev pub Translates : List ItemTree → List Tables → List (List ℕ) → RawProgram → Type 0
Translates items ts simuls p =
    (h : Heritage) → IsOfUnit items ts h → Lays (plan_of p.tables ts simuls) h (code_of p (rows_of ts)) → AreFuns h (code_of p (rows_of ts)) (own_functions items) (map row_of p.funs)

-- a program stands for each version of a unit that has its tables
abbrev pub Stands : List ItemTree → List Tables → List (List ℕ) → RawProgram → Type 0
Stands items ts names p = (h : Heritage) → IsVersion items p.tables ts names h → StandsForVersion h (program_of p ts)
