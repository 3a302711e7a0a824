-- The state with one version more stands for the world with one version more.
use Rattle.std.proofs.Common.{◌≡◌, ◌∙◌, ◌++◌, ◌+◌, ℕ, All, List, [], ◌∷◌, Option, Some, None, IsSome, refl, ap, sym, subst, inl, inr, slice_get, unwrap_or, length, length-append, arith}
use Rattle.std.specs.Prelude.{Contains}
use Rattle.lp_values.specs.declared.id.ProgId.{ProgId}
use Rattle.lp_code.specs.declared.program.RawProgram.{RawProgram}
use Rattle.lp_swapfile.specs.Device.{Bytes}
use Rattle.lp_language.specs.World as world
use Rattle.lp_language.specs.World.{World, new_world, no_version, version_at}
use Rattle.lp_language.specs.Resolve.{Heritage, Part, number_of, part_at}
use Rattle.lp_meaning.specs.IdleAndKept.{IsKept, by_child, by_object}
use Rattle.lp_meaning.specs.WorldSteps as steps
use Rattle.lp_world.specs.Additions.{IsVersionOf, with_new_version}
use Rattle.lp_world.specs.Closed.{IsClosed}
use Rattle.lp_world.specs.Rows.{row_at}
use Rattle.lp_world.specs.Stands.{AreTargets, IsTarget, IsVersion, ProgramIs, Stands, heritage_in, slot_in, slot_of_part}
use Rattle.lp_world.specs.Targets.{answer_at}
use Rattle.lp_world.specs.declared.live.Live.{Live}
use Rattle.lp_world.specs.declared.targets.FunAt.{FunAt}
use Rattle.lp_world.specs.declared.versions.Version.{Version}
use Rattle.lp_world.proofs.Keeping.{get_end, get_kept, get_new}
use Rattle.lp_residence.proofs.RowChanges.{row_there}
use Rattle.lp_making.specs.Versions.{IsMadeNow}
use Rattle.lp_making.proofs.Families.{heritage_kept}

-- Rows

found_some : {A : Type 0} (o : Option A) → IsSome o → (x : A) × (o ≡ Some x)
found_some None i = cc
found_some (Some x) i = (x, refl)

pub some_row : {A : Type 0} (rows : List (Option A)) (n : ℕ) → IsSome (row_at rows n) → (x : A) × (slice_get rows n ≡ Some (Some x))
some_row rows n i = let f = found_some (row_at rows n) i in (f.0, row_there rows n f.0 f.1)

pub row_stays : {A : Type 0} (rows more : List (Option A)) (n : ℕ) → IsSome (row_at rows n) → IsSome (row_at (rows ++ more) n)
row_stays rows more n i = let f = some_row rows n i in subst (λ o. IsSome (unwrap_or o None)) (sym (get_kept rows more n (Some f.0) f.1)) refl

-- the version of the world behind a row that is there
pub version_behind : (told : Option Bytes) (programs : List RawProgram) (live : Live) (w : World) (v : ProgId) → Stands told programs live w → IsSome (row_at live.versions v.0)
    → (row : Version) × (slice_get live.versions v.0 ≡ Some (Some row)) × IsVersion told programs w.versions v.0 row
version_behind told programs live w v h i = let f = some_row live.versions v.0 i in (f.0, f.1, h.versions.each v.0 f.0 f.1)

-- the parents of a version that is there are there
pub parents_there : (told : Option Bytes) (programs : List RawProgram) (live : Live) (w : World) (v : ProgId) → Stands told programs live w → IsClosed live → IsSome (row_at live.versions v.0)
    → All (λ (p : ProgId). IsSome (row_at live.versions p.0)) (version_at (record (new_world [] 0 0) { versions = w.versions }) v).parents
parents_there told programs live w v h c i =
    let b = version_behind told programs live w v h i in
    subst (λ (x : world.Version). All (λ (p : ProgId). IsSome (row_at live.versions p.0)) x.parents) (ap (λ o. unwrap_or o no_version) (sym b.2.there))
    (subst (All (λ (p : ProgId). IsSome (row_at live.versions p.0))) b.2.parents (c.versions v.0 b.0 b.1).parents)

-- Answers that are kept

slot_kept : (programs more : List RawProgram) (h : Heritage) (o : Option Part) (slot : ℕ) (a : Option FunAt) → IsTarget h o (slot_of_part programs o slot) a → IsTarget h o (slot_of_part (programs ++ more) o slot) a
slot_kept programs more h None slot a i = absurd i
slot_kept programs more h (Some p) slot a i = by (slice_get programs (number_of p.tree).0) refl i
  where
    by : (q : Option RawProgram) → slice_get programs (number_of p.tree).0 ≡ q → IsTarget h (Some p) (slot_in q slot) a → IsTarget h (Some p) (slot_in (slice_get (programs ++ more) (number_of p.tree).0) slot) a
    by None e t = absurd t
    by (Some q) e t = subst (λ r. IsTarget h (Some p) (slot_in r slot) a) (sym (get_kept programs more (number_of p.tree).0 q e)) t

targets_kept : (programs more : List RawProgram) (h : Heritage) (kept : ℕ → ℕ → Option (Option FunAt)) → AreTargets programs h kept → AreTargets (programs ++ more) h kept
targets_kept programs more h kept t part slot a e = slot_kept programs more h (part_at h part) slot a (t part slot a e)

no_targets : (programs : List RawProgram) (h : Heritage) (kept : ℕ → ℕ → Option (Option FunAt)) → ((part slot : ℕ) → kept part slot ≡ None) → AreTargets programs h kept
no_targets programs h kept n part slot a e = let q : None ≡ Some a = sym (n part slot) ∙ e in cc

module _ (told : Option Bytes) (programs : List RawProgram) (live : Live) (w : World) (file : List ℕ) (raw : RawProgram) (row : Version) (v : world.Version)
    (h : Stands told programs live w) (c : IsClosed live) (is : IsVersionOf live.clock file raw row) (now : IsMadeNow w file raw v) where
  abbrev more : List world.Version
  more = w.versions ++ v ∷ []

  abbrev There : ProgId → Type 0
  There q = IsSome (row_at live.versions q.0)

  same : (q : ProgId) → There q → version_at (record (new_world [] 0 0) { versions = more }) q ≡ version_at (record (new_world [] 0 0) { versions = w.versions }) q
  same q i =
      let b = version_behind told programs live w q h i in
      ap (λ o. unwrap_or o no_version) (get_kept w.versions (v ∷ []) q.0 b.2.version b.2.there ∙ sym b.2.there)

  tree_kept : (q : ProgId) → There q → heritage_in more q ≡ heritage_in w.versions q
  tree_kept = heritage_kept There w.versions more same (λ q i. parents_there told programs live w q h c i)

  old_version : (n : ℕ) (x : Version) → slice_get live.versions n ≡ Some (Some x) → IsVersion told (programs ++ raw ∷ []) more n x
  old_version n x g =
      let o = h.versions.each n x g in
      record {
        version = o.version;
        there = get_kept w.versions (v ∷ []) n o.version o.there;
        path = o.path;
        latest = o.latest;
        parents = o.parents;
        program = o.program;
        is = get_kept programs (raw ∷ []) n o.program o.is;
        outline = o.outline;
        state = o.state;
        targets = subst (λ t. AreTargets (programs ++ raw ∷ []) t (answer_at x.targets)) (sym (tree_kept (record { 0 = n }) (subst (λ r. IsSome (unwrap_or r None)) (sym g) refl)))
            (targets_kept programs (raw ∷ []) (heritage_in w.versions (record { 0 = n })) (answer_at x.targets) o.targets);
      }

  new_version : IsVersion told (programs ++ raw ∷ []) more (length live.versions) row
  new_version = record {
    version = v;
    there = ap (λ n. slice_get more n) h.versions.next ∙ get_end w.versions v;
    path = is.path ∙ sym now.path;
    latest = is.latest ∙ h.rest.clock ∙ sym now.latest;
    parents = is.outline.parents ∙ sym now.parents;
    program = raw;
    is = ap (λ n. slice_get (programs ++ raw ∷ []) n) (h.versions.next ∙ sym h.versions.whole) ∙ get_end programs raw;
    outline = is.outline;
    state = subst (ProgramIs told raw) (sym is.state) refl;
    targets = no_targets (programs ++ raw ∷ []) (heritage_in more (record { 0 = length live.versions })) (answer_at row.targets) is.targets;
  }

  kept_before : (q : ProgId) → IsKept (record (new_world [] 0 0) { objects = w.objects; versions = more }) q → IsKept (record (new_world [] 0 0) { objects = w.objects; versions = w.versions }) q
  kept_before _ (by_object n x e l) = by_object n x e l
  kept_before _ (by_child u p k i) =
      let was = kept_before u k in
      by_child u p was (subst (λ (x : world.Version). Contains x.parents p) (same u (h.kept u was)) i)

  pub stands_with_version : Stands told (programs ++ raw ∷ []) (with_new_version live row) (steps.with_new_version w v)
  stands_with_version = record {
    cells = h.cells;
    objects = h.objects;
    names = h.names;
    versions = record {
      each = λ n x g. elim (get_new live.versions (Some row) n (Some x) g) [
        | inl was ↦ old_version n x was
        | inr e ↦ subst (λ m. IsVersion told (programs ++ raw ∷ []) more m x) (sym e.1)
            (subst (IsVersion told (programs ++ raw ∷ []) more (length live.versions)) (ap (λ o. unwrap_or (unwrap_or o None) row) e.0) new_version)
      ];
      next = one_more (length live.versions) (length w.versions) _ _ h.versions.next (length-append live.versions (Some row ∷ [])) (length-append w.versions (v ∷ []));
      whole = one_more (length programs) (length w.versions) _ _ h.versions.whole (length-append programs (raw ∷ [])) (length-append w.versions (v ∷ []));
    };
    kept = λ q k. row_stays live.versions (Some row ∷ []) q.0 (h.kept q (kept_before q k));
    rest = h.rest;
  }
    where
      one_more : (a b x y : ℕ) → a ≡ b → x ≡ a + 1 → y ≡ b + 1 → x ≡ y
      one_more a b x y e f g = omega (arith, e, f, g)
