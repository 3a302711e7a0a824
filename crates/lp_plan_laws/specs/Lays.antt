-- That a layout made of the tables of a version is that of the version.
use Rattle.std.specs.Prelude.{◌≡◌, map}
use Rattle.lp_instr.specs.Code.{Code}
use Rattle.lp_language.specs.Resolve.{Heritage, parents_of, version_of}
use Rattle.lp_inherit.specs.Heirs.{IsNumbered, IsUnambiguous, table, tables}
use Rattle.lp_codegen_layout.specs.Names.{Lays}
use Rattle.lp_codegen_layout.specs.Laid.{plan_of, row_names}

-- The layout of a version's tables, its parents' tables and the simul efuns with which it was compiled, is that of the version
-- in code with the names of these tables.
abbrev pub LayoutsLay : Type 0
LayoutsLay =
    (h : Heritage) (code : Code) → IsNumbered h → IsUnambiguous h → code.rows ≡ row_names (table h).slots → code.parents ≡ map (λ t. row_names t.slots) (tables (parents_of h))
    → Lays (plan_of (table h) (tables (parents_of h)) (version_of h).simuls) h code
