-- A unit that is settled: it is that of a version, it is clear, and its program is sound.
use Rattle.std.proofs.Common.{◌≡◌, ℕ, suc, ◌+◌, ◌-◌, ◌≤◌, List, [], ◌∷◌, ◌++◌, length, map, Option, Some, None, refl, sym, ap, ◌∙◌, subst, arith, length-append}
use Rattle.std.specs.Prelude.{slice_get}
use Rattle.lp_tree.specs.Units.{ItemTree}
use Rattle.lp_values.specs.declared.id.ProgId.{ProgId}
use Rattle.lp_code.specs.declared.program.RawProgram.{RawProgram}
use Rattle.lp_code.specs.declared.tables.Tables.{Tables}
use Rattle.lp_code.specs.Programs.{IsProgram, code_of}
use Rattle.lp_layout.specs.Layout.{inherits, parts_before}
use Rattle.lp_front.specs.declared.read.Declared.{Declared}
use Rattle.lp_front.specs.Reading.{items_of}
use Rattle.lp_front.specs.Settling.{IsSettled, in_file, own_version, types_or_layout, versions_of, with_version}
use Rattle.lp_inherit.specs.Heirs.{table, tables}
use Rattle.lp_isa.specs.Programs.{own_functions}
use Rattle.lp_language.specs.Resolve.{Heir, Heritage, own_variables}
use Rattle.lp_types_expr.specs.declared.fault.FaultAt.{FaultAt}
use Rattle.lp_types.specs.TypeFaults.{type_faults}
use Rattle.lp_layout.specs.LayoutFaults.{layout_fault}
use Rattle.lp_codegen_expr.specs.Names.{Lays}
use Rattle.lp_codegen_layout.specs.Laid.{plan_of}
use Rattle.lp_codegen_expr.proofs.Compose.{slice_get-seam}
use Rattle.lp_codegen_unit.specs.Stands.{IsClearUnit}
use Rattle.lp_unit_laws.specs.Units.{FaultlessIsSound, HasCode, rows_of}
use Rattle.lp_unit_laws.specs.Versions.{AreOfVersions, AreTablesOf, IsOfVersion}
use Rattle.lp_unit_laws.proofs.Versioned.{is_version}
use Rattle.lp_compile.specs.Faultless.{FaultlessHasCode}
use Rattle.lp_compile.specs.Settled.{IsOfTokens, IsSettledUnit}
use Rattle.lp_compile.specs.Translated.{IsGenerated}

-- where nothing is told, there is no fault
none_told : (file : List ℕ) (fs : List FaultAt) (o : Option FaultAt) → map (in_file file) (types_or_layout fs o) ≡ [] → (fs ≡ []) × (o ≡ None)
none_told file [] None h = (refl, refl)
none_told file [] (Some f) h = absurd cc
none_told file (f ∷ fs) o h = absurd cc

pub settled : (path : List ℕ) (d : Declared) (own : ProgId) (ts : List Tables) (simuls : List (List ℕ)) (t : Tables) → IsOfTokens (items_of d) → length ts ≡ inherits (items_of d) → AreOfVersions ts → IsSettled path d ts own simuls t → IsSettledUnit (items_of d) t ts simuls
settled path d own ts simuls t tokens each of s =
    let n = none_told path (type_faults (items_of d) d.pragmas ts simuls) (layout_fault (items_of d) ts) s.0 in
    record {
      path = path;
      pragmas = d.pragmas;
      own = own;
      spelled = tokens;
      fine = record { each = each; types = n.0; layout = n.1; versions = of };
      tables = s.1;
    }

own_tables : (items : List ItemTree) (t : Tables) (ts : List Tables) (simuls : List (List ℕ)) → IsSettledUnit items t ts simuls → AreTablesOf t items ts
own_tables items t ts simuls s = record {
  rows = ap (λ (x : Tables). x.slots) s.tables;
  variables = ap (λ (x : Tables). x.vars) s.tables;
  version = s.own;
  parts = ap (λ (x : Tables). x.parts) s.tables;
}

-- its tables are those of a version
pub of_version : (items : List ItemTree) (t : Tables) (ts : List Tables) (simuls : List (List ℕ)) → IsSettledUnit items t ts simuls → IsOfVersion t
of_version items t ts simuls s =
    let v = is_version items s.pragmas ts simuls t s.fine (own_tables items t ts simuls s) in
    record { heritage = v.0; own = v.1.own; numbered = v.1.numbered; unambiguous = v.1.unambiguous; once = v.1.once }

-- each version stands behind the parts that it inherits, so that there are as many as parents
has_version : (h : Heritage) → (v : ProgId) × (own_version (table h) ≡ Some v)
has_version (Heir n v ps) =
    let us = parts_before (tables ps) in
    let e = length-append us (n ∷ []) in
    let k : length (us ++ n ∷ []) - 1 ≡ length us = omega (arith, e) in
    (n, ap (slice_get (us ++ n ∷ [])) k ∙ slice_get-seam us [] n)

all_versions : (ts : List Tables) → AreOfVersions ts → length ts ≤ length (versions_of ts)
all_versions [] v = omega arith
all_versions (t ∷ ts) v =
    let h = v.0 in
    let n = has_version h.heritage in
    let e : own_version t ≡ Some n.0 = ap own_version (sym h.own) ∙ n.1 in
    let l = all_versions ts v.1 in
    let q : length (with_version (own_version t) (versions_of ts)) ≡ suc (length (versions_of ts)) = ap (λ o. length (with_version o (versions_of ts))) e in
    omega (arith, l, q)

-- what was generated of it is sound
pub sound : FaultlessIsSound → (items : List ItemTree) (t : Tables) (ts : List Tables) (simuls : List (List ℕ)) (p : RawProgram) → IsSettledUnit items t ts simuls → IsGenerated items t ts simuls p → IsProgram p
sound law items t ts simuls p s g =
    let l = all_versions ts s.fine.versions in
    let n : length p.tables.parents ≡ length (versions_of ts) = ap (λ (x : Tables). length x.parents) (g.tables ∙ s.tables) in
    let code : HasCode items ts simuls p = λ h lays. g.code h (subst (λ x. Lays (plan_of x ts simuls) h (code_of p (rows_of ts))) g.tables lays) in
    law items s.pragmas ts simuls p s.fine (subst (λ x. AreTablesOf x items ts) (sym g.tables) (own_tables items t ts simuls s)) (omega (arith, l, n)) g.height g.named code

-- and it is not refused as unclear
pub clear : FaultlessHasCode → (items : List ItemTree) (t : Tables) (ts : List Tables) (simuls : List (List ℕ)) → IsSettledUnit items t ts simuls → IsClearUnit (plan_of t ts simuls) (own_functions items) (own_variables items)
clear law items t ts simuls s =
    subst (λ x. IsClearUnit (plan_of x ts simuls) (own_functions items) (own_variables items)) (sym s.tables)
    (law s.path items s.pragmas ts s.own simuls s.spelled.tokens s.spelled.spelled (record { parents_are = s.fine.each; types = s.fine.types; layout = s.fine.layout }))
