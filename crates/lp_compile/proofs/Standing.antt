-- A program that is the translation of a unit stands for its version.
use Rattle.std.proofs.Common.{◌≡◌, ℕ, List, map, sym, ap, ◌∙◌, subst}
use Rattle.lp_tree.specs.Units.{ItemTree}
use Rattle.lp_code.specs.declared.program.RawProgram.{RawProgram}
use Rattle.lp_code.specs.declared.tables.Tables.{Tables}
use Rattle.lp_code.specs.Programs.{code_of}
use Rattle.lp_language.specs.Resolve.{parents_of, version_of}
use Rattle.lp_isa.specs.Programs.{AreFuns, StandsForVersion, own_functions}
use Rattle.lp_inherit.specs.Heirs.{table, tables}
use Rattle.lp_codegen_expr.specs.Names.{Lays}
use Rattle.lp_codegen_layout.specs.Laid.{plan_of, row_names}
use Rattle.lp_part_laws.specs.Versions.{row_of}
use Rattle.lp_plan_laws.specs.Tables.{table_row}
use Rattle.lp_plan_laws.proofs.Laying.{layouts_lay}
use Rattle.lp_plan_laws.proofs.Standing.{tables_stand}
use Rattle.lp_compile.specs.Translated.{Stands, Translates}
use Rattle.lp_unit_laws.specs.Units.{rows_of}
use Rattle.lp_unit_laws.specs.Versions.{variables_in}
use Rattle.lp_unit_laws.proofs.Sounding.{counted}

pub stands : (items : List ItemTree) (ts : List Tables) (names : List (List ℕ)) (p : RawProgram) → Translates items ts names p → Stands items ts names p
stands items ts names p made h v =
    let code = code_of p (rows_of ts) in
    let rows : code.rows ≡ row_names (table h).slots = ap (λ (t : Tables). row_names t.slots) (sym v.own) in
    let parents : code.parents ≡ map (λ t. row_names t.slots) (tables (parents_of h)) = ap (map (λ (t : Tables). row_names t.slots)) (sym v.parents) in
    let lays : Lays (plan_of (table h) (tables (parents_of h)) (version_of h).simuls) h code = layouts_lay h code v.numbered v.unambiguous rows parents in
    let here : Lays (plan_of p.tables ts names) h code =
    subst (λ ns. Lays (plan_of p.tables ts ns) h code) v.simuls
    (subst (λ us. Lays (plan_of p.tables us (version_of h).simuls) h code) v.parents
    (subst (λ t. Lays (plan_of t (tables (parents_of h)) (version_of h).simuls) h code) v.own lays)) in
    let funs : AreFuns h code (own_functions items) (map row_of p.funs) = made h (record { items = v.items; first = counted (parents_of h) ∙ ap variables_in v.parents }) here in
    let whole = tables_stand h code (map row_of p.funs) v.numbered v.once rows parents (subst (λ is. AreFuns h code (own_functions is) (map row_of p.funs)) (sym v.items) funs) in
    subst (λ (t : Tables). StandsForVersion h (record { code = code; funs = map row_of p.funs; table = map table_row t.slots })) v.own whole
