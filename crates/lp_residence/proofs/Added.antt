-- A closed state stays closed where a version or an object came, or was taken back.
use Rattle.std.proofs.Common.{◌≡◌, ◌∙◌, ◌++◌, ℕ, All, Bool, true, false, List, [], ◌∷◌, Option, Some, None, Result, Ok, Err, OnOk, OnErr, ap, sym, subst, unwrap_or, length}
use Rattle.std.specs.Bool.{OnTrue}
use Rattle.lp_cells.specs.Cells.{IsThere}
use Rattle.lp_values.specs.declared.id.ObjId.{ObjId}
use Rattle.lp_values.specs.declared.id.ProgId.{ProgId}
use Rattle.lp_values.specs.declared.value.Value.{Value}
use Rattle.lp_code.specs.declared.program.RawProgram.{RawProgram}
use Rattle.lp_objects.specs.declared.fault.ObjectFault.{ObjectFault}
use Rattle.lp_objects.specs.declared.objects.Objects.{Objects}
use Rattle.lp_world.specs.Additions.{IsVersionAdded, new_object, with_new_object}
use Rattle.lp_world.specs.Closed.{IsClosed, IsVersionClosed}
use Rattle.lp_world.specs.Rows.{row_at}
use Rattle.lp_world.specs.declared.live.Live.{Live}
use Rattle.lp_world.specs.declared.objects.Object.{Object}
use Rattle.lp_world.specs.declared.versions.Version.{Version}
use Rattle.lp_world.proofs.Grown.{closed_with_new_object, closed_with_new_version}
use Rattle.lp_world.proofs.Keeping.{get_end}
use Rattle.lp_residence.specs.Adding.{AreRight, IsClosedAt, IsNewVersion, with_names, with_object}

abbrev pub IsTakenBack : {A : Type 0} → List A → List A → Type 0
IsTakenBack {A} mid after = (rows : List A) (row : A) → mid ≡ rows ++ row ∷ [] → after ≡ rows

module _ (live : Live) (file : List ℕ) (raw : RawProgram) (p : ProgId) (mid after : List (Option Version)) (number : p.0 ≡ length live.versions) (added : IsVersionAdded live.versions mid live.clock file raw) where
  last_there : (versions : List (Option Version)) → versions ≡ live.versions ++ Some added.version ∷ [] → row_at versions p.0 ≡ Some added.version
  last_there versions e =
      ap (λ vs. row_at vs p.0) e ∙ ap (λ n. row_at (live.versions ++ Some added.version ∷ []) n) number ∙ ap (λ o. unwrap_or o None) (get_end live.versions (Some added.version))

  pub version_closed : {E : Type 0} (result : Result ProgId E) → IsClosed live → OnOk result (after ≡ mid) → OnOk result (IsClosedAt after p.0) → OnErr result (IsTakenBack mid after) → IsClosed (record live { versions = after })
  version_closed (Ok q) h same right back =
      let e : after ≡ live.versions ++ Some added.version ∷ [] = same ∙ added.after in
      subst (λ vs. IsClosed (record live { versions = vs })) (sym e)
      (closed_with_new_version live added.version raw h added.is.state
      (subst (λ n. IsVersionClosed (live.versions ++ Some added.version ∷ []) n added.version) number
      (subst (λ vs. IsVersionClosed vs p.0 added.version) e (right added.version (last_there after e)))))
  version_closed (Err x) h same right back = subst (λ vs. IsClosed (record live { versions = vs })) (sym (back live.versions (Some added.version) added.after)) h

  pub version_new : {E : Type 0} (result : Result ProgId E) → OnOk result (after ≡ mid) → OnOk result (IsNewVersion live (record live { versions = after }) file raw)
  version_new (Ok q) same = record { version = added.version; is = added.is; after = ap (λ vs. record live { versions = vs }) (same ∙ added.after) }
  version_new (Err x) same = tt

pub right_variables : (b : Bool) (l : Live) (p : ProgId) (vs : List Value) (v : Version) → Some v ≡ row_at l.versions p.0
    → OnTrue b (length vs ≡ v.outline.variables) → OnTrue b (All (IsThere l.cells) vs) → OnTrue b (AreRight l p vs)
right_variables true l p vs v e n t = record { version = v; there = sym e; count = n; cells = t }
right_variables false l p vs v e n t = tt

named_closed : (live : Live) (table : Objects) → IsClosed live → IsClosed (with_names live table)
named_closed live table h = record { clock = h.clock; cells = h.cells; objects = h.objects; apart = h.apart; versions = h.versions; call_outs = h.call_outs; waiting = h.waiting; placed = h.placed; numbered = h.numbered; room = h.room }

module _ (live : Live) (p : ProgId) (vs : List Value) (objects : List (Option Object)) (new : Live) (added : objects ≡ live.objects ++ Some (new_object p live.clock vs) ∷ []) where
  abbrev mid : Live
  mid = record live { objects = objects }

  is_with_object : new ≡ with_names mid new.names → new ≡ with_object live p vs new.names
  is_with_object e = e ∙ ap (λ rows. with_names (record live { objects = rows }) new.names) added

  pub object_closed : (result : Result ObjId ObjectFault) → IsClosed live → AreRight live p vs → OnOk result (new ≡ with_names mid new.names)
      → OnErr result ((rows : List (Option Object)) (row : Option Object) → objects ≡ rows ++ row ∷ [] → new ≡ record (with_names mid new.names) { objects = rows })
      → IsClosed new
  object_closed (Ok q) h right e back =
      subst IsClosed (sym (is_with_object e)) (named_closed (with_new_object live (new_object p live.clock vs)) new.names (closed_with_new_object live p live.clock vs right.version h right.there right.count right.cells))
  object_closed (Err x) h right e back =
      subst IsClosed (sym (back live.objects (Some (new_object p live.clock vs)) added)) (named_closed live new.names h)
