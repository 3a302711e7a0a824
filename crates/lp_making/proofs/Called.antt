-- Calls of parents' rows find them.
use Rattle.std.proofs.Common.{◌≡◌, ◌∙◌, ◌<◌, ℕ, zero, suc, List, [], ◌∷◌, Option, Some, IsSome, refl, ap, sym, subst, map, slice_get, unwrap_or, length, arith}
use Rattle.lp_values.specs.declared.id.ProgId.{ProgId}
use Rattle.lp_code.specs.declared.program.RawProgram.{RawProgram}
use Rattle.lp_code.specs.declared.tables.Slot.{Slot}
use Rattle.lp_code.specs.declared.tables.Tables.{Tables}
use Rattle.lp_instr.specs.Code.{or_none}
use Rattle.lp_world.specs.Closed.{IsRowThere}
use Rattle.lp_residence.proofs.RowChanges.{row_there}
use Rattle.lp_making.specs.Calls.{CallsFindRows, HasTablesAt, HaveTablesAt, row_names}

-- the tables of a parent, by its place
tables_at : (programs : List RawProgram) (ns : List ProgId) (ts : List Tables) (k : ℕ) (n : ProgId) → HaveTablesAt programs ns ts → slice_get ns k ≡ Some n
    → (t : Tables) × (slice_get ts k ≡ Some t) × HasTablesAt programs n t
tables_at programs [] ts k n h e = absurd cc
tables_at programs (m ∷ ns) [] k n h e = absurd h
tables_at programs (m ∷ ns) (t ∷ ts) zero n h e = (t, refl, subst (λ x. HasTablesAt programs x t) (ap (λ o. unwrap_or o m) e) h.0)
tables_at programs (m ∷ ns) (t ∷ ts) (suc k) n h e = tables_at programs ns ts k n h.1 e

names_at : (ts : List Tables) (k : ℕ) (t : Tables) → slice_get ts k ≡ Some t → slice_get (row_names ts) k ≡ Some (map (λ (s : Slot). s.name) t.slots)
names_at [] k t e = absurd cc
names_at (u ∷ ts) zero t e = ap (λ (x : Tables). Some (map (λ (s : Slot). s.name) x.slots)) (ap (λ o. unwrap_or o u) e)
names_at (u ∷ ts) (suc k) t e = names_at ts k t e

name_there : (ss : List Slot) (j : ℕ) → j < length ss → IsSome (slice_get (map (λ (s : Slot). s.name) ss) j)
name_there [] j l = absurd (omega (arith, l))
name_there (s ∷ ss) zero l = refl
name_there (s ∷ ss) (suc j) l = name_there ss j (omega (arith, l))

same_program : (p q : RawProgram) (o : Option RawProgram) → o ≡ Some p → o ≡ Some q → p ≡ q
same_program p q o e f = ap (λ r. unwrap_or r p) (sym e ∙ f)

pub calls_find_rows : CallsFindRows
calls_find_rows told programs live w n row p ts h c there inside tables at parent j count e =
    let r : IsRowThere live.versions p.tables.parents parent j = ((c.versions n row there).program p inside).rows at parent j count e in
    let v = h.versions.each r.number.0 r.version (row_there live.versions r.number.0 r.version r.there) in
    let t = tables_at programs p.tables.parents ts parent r.number tables r.listed in
    let slots : r.version.outline.slots ≡ length t.0.slots = v.outline.slots ∙ ap (λ (q : RawProgram). length q.tables.slots) (same_program v.program t.2.program (slice_get programs r.number.0) v.is t.2.is) ∙ ap (λ (x : Tables). length x.slots) t.2.tables in
    let below : j < r.version.outline.slots = r.row in
    subst (λ o. IsSome (slice_get (or_none o) j)) (sym (names_at ts parent t.0 t.1)) (name_there t.0.slots j (omega (arith, below, slots)))
