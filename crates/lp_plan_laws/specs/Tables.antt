-- That the tables of a version are the table of its names.
use Rattle.std.specs.Prelude.{◌≡◌, ⊤, List, [], ◌∷◌, map, Option, Some, None, false, if◌then◌else◌}
use Rattle.std.specs.List.{list_any}
use Rattle.lp_instr.specs.Code.{Code}
use Rattle.lp_instr.specs.EfunList.{is_name}
use Rattle.lp_code.specs.declared.tables.Slot.{Slot}
use Rattle.lp_language.specs.Resolve.{Function, Heritage, Heir, Heritages, NoParent, OneParent, parents_of, version_of}
use Rattle.lp_isa.specs.Programs.{AreFuns, FunRow, Reached, StandsForVersion, TableRow, own_functions}
use Rattle.lp_types_expr.specs.Signatures.{has_function}
use Rattle.lp_inherit.specs.Heirs.{IsNumbered, table, tables}
use Rattle.lp_codegen_layout.specs.Laid.{row_names}

-- a row of tables, as the meaning of programs has it
abbrev pub reached_by : Slot → Option Reached
reached_by s = if has_function s then Some (record { part = s.part; fun = s.fun }) else None

abbrev pub table_row : Slot → TableRow
table_row s = record { name = s.name; reached = reached_by s }

-- no two functions have one name
abbrev pub AreOnce : List Function → Type 0
AreOnce [] = ⊤
AreOnce (f ∷ fs) = (list_any (λ g. is_name g.name f.name) fs ≡ false) × AreOnce fs

-- in no file of a tree; else it would have a name used twice
abbrev mutual
  pub IsNamedOnce : Heritage → Type 0
  IsNamedOnce (Heir n v ps) = AreOnce (own_functions v.items) × AreNamedOnce ps

  pub AreNamedOnce : Heritages → Type 0
  AreNamedOnce NoParent = ⊤
  AreNamedOnce (OneParent h hs) = IsNamedOnce h × AreNamedOnce hs

-- A program whose functions are translated, and which has the tables of a version and the names of those of its parents, stands
-- for the version.
abbrev pub TablesStand : Type 0
TablesStand =
    (h : Heritage) (code : Code) (funs : List FunRow) → IsNumbered h → IsNamedOnce h → code.rows ≡ row_names (table h).slots → code.parents ≡ map (λ t. row_names t.slots) (tables (parents_of h))
    → AreFuns h code (own_functions (version_of h).items) funs → StandsForVersion h (record { code = code; funs = funs; table = map table_row (table h).slots })
