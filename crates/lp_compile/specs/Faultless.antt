-- That a faultless unit has code.
use Rattle.std.specs.Prelude.{ℕ, List}
use Rattle.lp_tree.specs.declared.pragma.Pragmas.{Pragmas}
use Rattle.lp_tree.specs.declared.seen.Seen.{Seen}
use Rattle.lp_tree.specs.Units.{ItemTree, SpellsUnit}
use Rattle.lp_values.specs.declared.id.ProgId.{ProgId}
use Rattle.lp_code.specs.declared.tables.Tables.{Tables}
use Rattle.lp_front.specs.Settling.{tables_of}
use Rattle.lp_language.specs.Resolve.{own_variables}
use Rattle.lp_isa.specs.Programs.{own_functions}
use Rattle.lp_codegen_layout.specs.Laid.{plan_of}
use Rattle.lp_codegen_laws.specs.Units.{IsFaultless}
use Rattle.lp_codegen_unit.specs.Stands.{IsClearUnit}

-- A unit that is spelled, and in which the checks find no fault, is clear for the layout of its version's tables.
abbrev pub FaultlessHasCode : Type 0
FaultlessHasCode =
    (path : List ℕ) (items : List ItemTree) (pragmas : Pragmas) (parents : List Tables) (own : ProgId) (simuls : List (List ℕ)) (tokens : List Seen)
    → SpellsUnit items tokens → IsFaultless items pragmas parents simuls → IsClearUnit (plan_of (tables_of path items pragmas parents own) parents simuls) (own_functions items) (own_variables items)
