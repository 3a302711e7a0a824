-- Where calls of parents' functions lead.
use Rattle.std.proofs.Common.{◌≡◌, ◌∙◌, ◌<◌, ℕ, zero, suc, arith, List, [], ◌∷◌, Option, Some, None, IsSome, All, refl, ap, sym, subst, slice_get, length, take, option_map}
use Rattle.std.proofs.lemmas.List.Elements.{All-head, All-tail, All-weaker}
use Rattle.std.specs.Prelude.{◌+◌}
use Rattle.lp_values.specs.declared.id.ObjId.{ObjId}
use Rattle.lp_values.specs.declared.id.ProgId.{ProgId}
use Rattle.lp_code.specs.declared.program.RawProgram.{RawProgram}
use Rattle.lp_code.specs.declared.tables.Slot.{Slot}
use Rattle.lp_code.specs.declared.tables.Tables.{Tables}
use Rattle.lp_code.specs.Programs.{code_of}
use Rattle.lp_codegen_layout.specs.Laid.{row_names}
use Rattle.lp_instr.specs.Code.{or_none, parent_row}
use Rattle.lp_swapfile.specs.Device.{Bytes}
use Rattle.lp_language.specs.World.{Version as WorldVersion, World, version_at}
use Rattle.lp_language.specs.Resolve.{Found, Heritage, Heir, each_heritage, Heritages, NoParent, OneParent, Part, heritage_of, moved, number_of, of_parent_from, parent_from, parents_of, part_at, part_count, resolve, resolve_in, version_of}
use Rattle.lp_isa.specs.Programs.{IsReached, Reached}
use Rattle.lp_inherit.specs.Heirs.{table, tables}
use Rattle.lp_inherit.proofs.Meanings.{count_parts}
use Rattle.lp_plan_laws.specs.Tables.{reached_by}
use Rattle.lp_world.specs.Closed.{IsClosed, parts_in, parts_together}
use Rattle.lp_world.specs.declared.live.Live.{Live}
use Rattle.lp_world.specs.declared.objects.Object.{Object}
use Rattle.lp_world.specs.declared.versions.Version.{Version}
use Rattle.lp_world.specs.Rows.{row_at}
use Rattle.lp_residence.proofs.RowChanges.{row_there}
use Rattle.lp_part_laws.specs.Versions.{AreRising, FitsVersion, heritage_in, rows_of}
use Rattle.lp_part_laws.specs.Parts.{moved_reached}
use Rattle.lp_part_laws.proofs.Lists.{got_map, one_value}
use Rattle.lp_part_laws.proofs.Rows.{inside_parent, inside_part, reached_inside}
use Rattle.lp_part_laws.proofs.Texts.{parent_in_text}
use Rattle.lp_part_laws.proofs.Trees.{bare, parent_at, parent_part, parents_settled, part_keeps, part_settled, parts_until, version_settled}
use Rattle.lp_targets.specs.Brought.{program_at}
use Rattle.lp_targets.specs.Callees.{AreInText, IsCaller, IsWorldOf}
use Rattle.lp_targets.proofs.Calls.{few_parts, fit_row, moved_all, own_reached, part_end, reached_part, resolve_in_text}
use Rattle.lp_targets.proofs.Memory.{program_row, some_row}
use Rattle.lp_targets.proofs.Worlds.{caller_fits, passes, tree_is, whole_fits}

-- the parents' tables by their places
named_table : (hs : Heritages) (a j : ℕ) (q : Part) → parent_from hs a j ≡ Some q → slice_get (tables hs) j ≡ Some (table q.tree)
named_table NoParent a j q e = absurd cc
named_table (OneParent h hs) a zero q e = let s : record { tree = h; first = a; base = 0 } ≡ q = cc in ap (λ (p : Part). Some (table p.tree)) s
named_table (OneParent h hs) a (suc j) q e = named_table hs (a + part_count h) j q e

-- a tree's tables list the versions of its parents
listed_parents : (t : Heritage) → (table t).parents ≡ (version_of t).parents
listed_parents (Heir n v ps) = refl

-- the parent with a place among the inherits of a version
record IsParent (versions : List WorldVersion) (t : Heritage) (j : ℕ) (n : ProgId) : Type 0 where
  pub part : Part
  pub at : parent_from (parents_of t) 0 j ≡ Some part
  pub tree : part.tree ≡ heritage_in versions n
  pub first : part.first ≡ parts_until (heritage_in versions) (version_at (bare versions) (number_of t)).parents j

parent_is : (versions : List WorldVersion) (t : Heritage) (j : ℕ) (n : ProgId) → AreRising versions → t ≡ heritage_in versions (number_of t) → slice_get (version_of t).parents j ≡ Some n → IsParent versions t j n
parent_is versions t j n r e g =
    let m = number_of t in
    let parents = (version_at (bare versions) m).parents in
    let there : slice_get parents j ≡ Some n = ap (λ (v : WorldVersion). slice_get v.parents j) (sym (ap version_of e ∙ version_settled versions m)) ∙ g in
    record {
      part = parent_part (heritage_in versions) (0 + parts_until (heritage_in versions) parents j) n;
      at = ap (λ h. parent_from (parents_of h) 0 j) e ∙ parent_at versions m j r ∙ ap (option_map (parent_part (heritage_in versions) (0 + parts_until (heritage_in versions) parents j))) there;
      tree = refl;
      first = let z : 0 + parts_until (heritage_in versions) parents j ≡ parts_until (heritage_in versions) parents j = omega arith in z;
    }

-- as many parts as the state says
together_until : (rows : List (Option Version)) (f : ProgId → Heritage) (vs : List ProgId) (j : ℕ) → All (λ (u : ProgId). parts_in (row_at rows u.0) ≡ part_count (f u)) vs → parts_together rows (take j vs) ≡ parts_until f vs j
together_until rows f [] zero h = refl
together_until rows f [] (suc j) h = refl
together_until rows f (v ∷ vs) zero h = refl
together_until rows f (v ∷ vs) (suc j) h =
    let a : parts_in (row_at rows v.0) ≡ part_count (f v) = All-head (λ (u : ProgId). parts_in (row_at rows u.0) ≡ part_count (f u)) v vs h in
    let b = together_until rows f vs j (All-tail (λ (u : ProgId). parts_in (row_at rows u.0) ≡ part_count (f u)) v vs h) in
    ap (λ z. z + parts_together rows (take j vs)) a ∙ ap (λ z. part_count (f v) + z) b

counted : (told : Option Bytes) (programs : List RawProgram) (live : Live) (w : World) (u : ProgId) → IsWorldOf told programs live w → IsSome (row_at live.versions u.0) → parts_in (row_at live.versions u.0) ≡ part_count (heritage_in w.versions u)
counted told programs live w u h s =
    let v = some_row (row_at live.versions u.0) s in
    let is = h.stands.versions.each u.0 v.0 (row_there live.versions u.0 v.0 v.1) in
    let fits = h.compiled.fit u.0 is.program is.is in
    ap parts_in v.1 ∙ is.outline.parts ∙ ap (λ (t : Tables). length t.parts) (sym fits.own.own) ∙ count_parts (heritage_in w.versions u)

-- What a call of a parent's row reaches.
pub record OfParent (programs : List RawProgram) (live : Live) (w : World) (o : ObjId) (part : ℕ) (code : RawProgram) (j : ℕ) (n : ProgId) (name : List ℕ) (first : ℕ) (s : Slot) : Type 0 where
  pub reached : IsReached (heritage_of w o) (of_parent_from (part_at (heritage_of w o) part) j name) (moved_reached first (moved_reached (parts_together live.versions (take j code.tables.parents)) (reached_by s)))
  pub text : AreInText (heritage_of w o) (of_parent_from (part_at (heritage_of w o) part) j name)
  pub room : (r : Reached) → reached_by s ≡ Some r → first + (parts_together live.versions (take j code.tables.parents) + r.part) < 65535

moved_parent : (t : Heritage) (j : ℕ) (q : Part) (x : Option Found) → parent_from (parents_of t) 0 j ≡ Some q → AreInText q.tree x → AreInText t (moved q.first x)
moved_parent t j q None e h = tt
moved_parent t j q (Some f) e h = parent_in_text t j q f e h

pub parent_there : (told : Option Bytes) (programs : List RawProgram) (live : Live) (w : World) (o : ObjId) (x : Object) (part : ℕ) (code : RawProgram) → IsWorldOf told programs live w → IsClosed live
    → row_at live.objects o.0 ≡ Some x → IsSome (row_at live.versions x.program.0) → (who : IsCaller programs w o part code) → All (λ (u : ProgId). IsSome (row_at live.versions u.0)) (version_at (bare w.versions) (number_of who.place.tree)).parents
parent_there told programs live w o x part code h closed e s who =
    let at : part_at (heritage_in w.versions x.program) part ≡ Some who.place = ap (λ z. part_at z part) (sym (tree_is told programs live w o x h.stands e)) ∙ who.at in
    passes told programs live w h.stands closed (number_of who.place.tree)
    (part_keeps w.versions (λ (u : ProgId). IsSome (row_at live.versions u.0)) (passes told programs live w h.stands closed) x.program part who.place s at)

listed_at : (f : ProgId → Heritage) (vs : List ProgId) (j : ℕ) (t : Tables) → slice_get (tables (each_heritage f vs)) j ≡ Some t → (n : ProgId) × (slice_get vs j ≡ Some n)
listed_at f [] j t e = absurd cc
listed_at f (v ∷ vs) zero t e = (v, refl)
listed_at f (v ∷ vs) (suc j) t e = listed_at f vs j t e

all_at : {A : Type 0} (P : A → Type 0) (xs : List A) (k : ℕ) (x : A) → All P xs → slice_get xs k ≡ Some x → P x
all_at P [] k x h e = absurd cc
all_at P (y ∷ ys) zero x h e = let s : y ≡ x = cc in subst P s (All-head P y ys h)
all_at P (y ∷ ys) (suc k) x h e = all_at P ys k x (All-tail P y ys h) e

-- the table in which a parent's row is named
row_table : (ts : List Tables) (j k : ℕ) (name : List ℕ) → slice_get (or_none (slice_get (rows_of ts) j)) k ≡ Some name → (t : Tables) × (slice_get ts j ≡ Some t) × (slice_get (row_names t.slots) k ≡ Some name)
row_table [] j k name e = absurd cc
row_table (t ∷ ts) zero k name e = (t, refl, e)
row_table (t ∷ ts) (suc j) k name e = row_table ts j k name e

-- What is known at a call of a parent's row.
pub record CallsParent (programs : List RawProgram) (live : Live) (w : World) (o : ObjId) (part : ℕ) (code : RawProgram) (j k : ℕ) (name : List ℕ) (first : ℕ) : Type 0 where
  pub number : ProgId
  pub listed : slice_get code.tables.parents j ≡ Some number
  pub there : IsSome (row_at live.versions number.0)
  pub calls : (q : RawProgram) → slice_get programs number.0 ≡ Some q → (s : Slot) × (slice_get q.tables.slots k ≡ Some s) × OfParent programs live w o part code j number name first s

of_parent_is : (told : Option Bytes) (programs : List RawProgram) (live : Live) (w : World) (o : ObjId) (part : ℕ) (code whole : RawProgram) (j : ℕ) (n : ProgId) (first before : ℕ) (s : Slot) (q : RawProgram) (k : ℕ)
    → (who : IsCaller programs w o part code) → FitsVersion (heritage_of w o) whole → FitsVersion who.place.tree code → (p : IsParent w.versions who.place.tree j n) → FitsVersion p.part.tree q → slice_get q.tables.slots k ≡ Some s
    → before ≡ p.part.first → first ≡ who.place.first → before ≡ parts_together live.versions (take j code.tables.parents)
    → OfParent programs live w o part code j n s.name first s
of_parent_is told programs live w o part code whole j n first before s q k who wf cf p qf e b f t =
    let h = heritage_of w o in
    let place = who.place in
    let x0 = resolve p.part.tree s.name in
    let r1 = reached_inside place.tree p.part.tree p.part.first x0 (reached_by s) (inside_parent place.tree j p.part p.at) (own_reached p.part.tree q s qf (fit_row p.part.tree q k s qf e)) in
    let r2 = reached_inside h place.tree place.first (moved p.part.first x0) (moved_reached p.part.first (reached_by s)) (inside_part h part place who.at) r1 in
    let found : of_parent_from (part_at h part) j s.name ≡ moved place.first (moved p.part.first x0) =
    ap (λ z. of_parent_from z j s.name) who.at ∙ ap (λ z. moved place.first (resolve_in z s.name)) p.at in
    let there : IsReached h (of_parent_from (part_at h part) j s.name) (moved_reached place.first (moved_reached p.part.first (reached_by s))) =
    subst (λ z. IsReached h z (moved_reached place.first (moved_reached p.part.first (reached_by s)))) (sym found) r2 in
    record {
      reached = subst (λ z. IsReached h (of_parent_from (part_at h part) j s.name) (moved_reached first (moved_reached z (reached_by s)))) t
          (subst (λ z. IsReached h (of_parent_from (part_at h part) j s.name) (moved_reached first (moved_reached z (reached_by s)))) (sym b)
          (subst (λ z. IsReached h (of_parent_from (part_at h part) j s.name) (moved_reached z (moved_reached p.part.first (reached_by s)))) (sym f) there));
      text = subst (AreInText h) (sym found) (moved_all h part place (moved p.part.first x0) who.at (moved_parent place.tree j p.part x0 p.at (resolve_in_text p.part.tree s.name)));
      room = λ r is.
          let i = subst (λ z. IsReached h (moved place.first (moved p.part.first x0)) (moved_reached place.first (moved_reached p.part.first z))) is r2 in
          let y = reached_part h (moved place.first (moved p.part.first x0)) (record { part = place.first + (p.part.first + r.part); fun = r.fun }) i in
          let l = few_parts h whole (place.first + (p.part.first + r.part)) y.0 wf y.1 in
          omega (arith, l, b, f, t);
    }

pub calls_parent : (told : Option Bytes) (programs : List RawProgram) (live : Live) (w : World) (o : ObjId) (x : Object) (version : ProgId) (part : ℕ) (code whole : RawProgram) (j k : ℕ) (name : List ℕ) (first : ℕ)
    → IsWorldOf told programs live w → IsClosed live → row_at live.objects o.0 ≡ Some x → x.program ≡ version → program_at live.versions version ≡ Some whole → (who : IsCaller programs w o part code)
    → parent_row (code_of code (rows_of (tables (parents_of who.place.tree)))) j k ≡ Some name → first + length code.tables.parts ≡ part + 1
    → CallsParent programs live w o part code j k name first
calls_parent told programs live w o x version part code whole j k name first h closed e v g who named end =
    let t = who.place.tree in
    let at : part_at (heritage_in w.versions x.program) part ≡ Some who.place = ap (λ z. part_at z part) (sym (tree_is told programs live w o x h.stands e)) ∙ who.at in
    let settled : t ≡ heritage_in w.versions (number_of t) = (part_settled w.versions x.program part who.place h.compiled.rising at).tree in
    let cf : FitsVersion t code = caller_fits told programs live w o x part code h e who in
    let wf : FitsVersion (heritage_of w o) whole = whole_fits told programs live w o x version whole h e v g in
    let parents = (version_at (bare w.versions) (number_of t)).parents in
    let listed : code.tables.parents ≡ parents = ap (λ (z : Tables). z.parents) (sym cf.own.own) ∙ listed_parents t ∙ ap (λ (z : WorldVersion). z.parents) (ap version_of settled ∙ version_settled w.versions (number_of t)) in
    let here : IsSome (row_at live.versions x.program.0) = program_row live.versions x.program (subst IsSome (sym (ap (program_at live.versions) v ∙ g)) refl) in
    let rows = parent_there told programs live w o x part code h closed e here who in
    let rt = row_table (tables (parents_of t)) j k name named in
    let pe : parents_of t ≡ each_heritage (heritage_in w.versions) parents = ap parents_of settled ∙ parents_settled w.versions (number_of t) h.compiled.rising in
    let n = listed_at (heritage_in w.versions) parents j rt.0 (ap (λ z. slice_get (tables z) j) (sym pe) ∙ rt.1) in
    let p = parent_is w.versions t j n.0 h.compiled.rising settled (ap (λ (z : WorldVersion). slice_get z.parents j) (ap version_of settled ∙ version_settled w.versions (number_of t)) ∙ n.1) in
    let same : table p.part.tree ≡ rt.0 = one_value (slice_get (tables (parents_of t)) j) (table p.part.tree) rt.0 (named_table (parents_of t) 0 j p.part p.at) rt.1 in
    let until = together_until live.versions (heritage_in w.versions) parents j
    (All-weaker (λ (u : ProgId). IsSome (row_at live.versions u.0)) (λ (u : ProgId). parts_in (row_at live.versions u.0) ≡ part_count (heritage_in w.versions u)) (λ u s. counted told programs live w u h s) parents rows) in
    let before : p.part.first ≡ parts_together live.versions (take j code.tables.parents) = p.first ∙ sym until ∙ ap (λ z. parts_together live.versions (take j z)) (sym listed) in
    let begin : first ≡ who.place.first = let z = part_end (heritage_of w o) part who.place code who.at cf in omega (arith, z, end) in
    record {
      number = n.0;
      listed = ap (λ z. slice_get z j) listed ∙ n.1;
      there = all_at (λ (u : ProgId). IsSome (row_at live.versions u.0)) parents j n.0 rows n.1;
      calls = λ q is.
          let qf : FitsVersion p.part.tree q = subst (λ z. FitsVersion z q) (sym p.tree) (h.compiled.fit n.0.0 q is) in
          let i = got_map (λ (s : Slot). s.name) q.tables.slots k name (subst (λ (z : Tables). slice_get (row_names z.slots) k ≡ Some name) (sym same ∙ qf.own.own) rt.2) in (
            i.of,
            i.there,
            subst (λ m. OfParent programs live w o part code j n.0 m first i.of) i.is
                (of_parent_is told programs live w o part code whole j n.0 first p.part.first i.of q k who wf cf p qf i.there refl begin before),
          );
    }
