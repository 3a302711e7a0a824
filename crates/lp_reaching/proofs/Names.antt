-- The names in the tables of a program's parents are those in the programs of its parents.
use Rattle.std.proofs.Common.{◌≡◌, ◌∙◌, ◌≤◌, ◌<◌, ℕ, arith, List, [], ◌∷◌, Some, All, refl, ap, sym, length, slice_get}
use Rattle.std.proofs.lemmas.List.Elements.{All-head, All-tail}
use Rattle.std.specs.Prelude.{map}
use Rattle.lp_values.specs.declared.id.ProgId.{ProgId}
use Rattle.lp_code.specs.declared.program.RawProgram.{RawProgram}
use Rattle.lp_code.specs.declared.tables.Tables.{Tables}
use Rattle.lp_language.specs.World.{Version, version_at}
use Rattle.lp_language.specs.Resolve.{Heir, Heritage, Part, each_heritage, number_of, parents_of, part_at, version_of}
use Rattle.lp_inherit.specs.Heirs.{table, tables}
use Rattle.lp_codegen_layout.specs.Laid.{row_names}
use Rattle.lp_part_laws.specs.Versions.{AreCompiled, FitsVersion, heritage_in, rows_of}
use Rattle.lp_part_laws.proofs.Lists.{is_below, there_below}
use Rattle.lp_part_laws.proofs.Trees.{bare, parents_settled, part_settled, rises, version_settled}
use Rattle.lp_asking.specs.Asking.{names_in, rows_in}

parents_in_table : (h : Heritage) → (table h).parents ≡ (version_of h).parents
parents_in_table (Heir n v ps) = refl

-- the names of one version
names_of_version : (programs : List RawProgram) (versions : List Version) (v : ProgId) → AreCompiled programs versions → v.0 < length programs → row_names (table (heritage_in versions v)).slots ≡ names_in (slice_get programs v.0)
names_of_version programs versions v c l =
    let p = there_below programs v.0 l in
    let fits : FitsVersion (heritage_in versions v) p.0 = c.fit v.0 p.0 p.1 in
    ap (λ (t : Tables). row_names t.slots) fits.own.own ∙ ap names_in (sym p.1)

names_of_each : (programs : List RawProgram) (versions : List Version) (n : ℕ) (vs : List ProgId) → AreCompiled programs versions → n ≤ length programs → All (λ (v : ProgId). v.0 < n) vs
    → rows_of (tables (each_heritage (heritage_in versions) vs)) ≡ map (λ (v : ProgId). names_in (slice_get programs v.0)) vs
names_of_each programs versions n [] c l h = refl
names_of_each programs versions n (v ∷ vs) c l h =
    let low : v.0 < n = All-head (λ (v : ProgId). v.0 < n) v vs h in
    ap (λ x. x ∷ rows_of (tables (each_heritage (heritage_in versions) vs))) (names_of_version programs versions v c (omega (arith, low, l)))
    ∙ ap (λ xs. names_in (slice_get programs v.0) ∷ xs) (names_of_each programs versions n vs c l (All-tail (λ (v : ProgId). v.0 < n) v vs h))

-- of a version's parents
pub names_of_parents : (programs : List RawProgram) (versions : List Version) (v : ProgId) (p : RawProgram) → AreCompiled programs versions → slice_get programs v.0 ≡ Some p → rows_of (tables (parents_of (heritage_in versions v))) ≡ rows_in programs p
names_of_parents programs versions v p c e =
    let fits : FitsVersion (heritage_in versions v) p = c.fit v.0 p e in
    let low : v.0 < length programs = is_below programs v.0 p e in
    let own : (version_at (bare versions) v).parents ≡ p.tables.parents
    = ap (λ (x : Version). x.parents) (sym (version_settled versions v)) ∙ sym (parents_in_table (heritage_in versions v)) ∙ ap (λ (t : Tables). t.parents) fits.own.own in
    ap (λ hs. rows_of (tables hs)) (parents_settled versions v c.rising)
    ∙ names_of_each programs versions v.0 (version_at (bare versions) v).parents c (omega (arith, low)) (rises versions v c.rising)
    ∙ ap (map (λ (u : ProgId). names_in (slice_get programs u.0))) own

-- and of those of the version of a part
pub names_of_part : (programs : List RawProgram) (versions : List Version) (v : ProgId) (n : ℕ) (place : Part) (p : RawProgram) → AreCompiled programs versions → part_at (heritage_in versions v) n ≡ Some place
    → slice_get programs (number_of place.tree).0 ≡ Some p → rows_of (tables (parents_of place.tree)) ≡ rows_in programs p
names_of_part programs versions v n place p c at e =
    ap (λ h. rows_of (tables (parents_of h))) (part_settled versions v n place c.rising at).tree ∙ names_of_parents programs versions (number_of place.tree) p c e
