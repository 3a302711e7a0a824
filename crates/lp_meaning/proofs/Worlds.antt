-- No step of the driver loses a version, an object or a cell.
use Rattle.std.proofs.Common.{◌≡◌, inl, inr, ℕ, ◌≤◌, Bool, true, false, cond, List, [], ◌∷◌, Option, Some, None, refl, ap, sym, subst, unwrap_or, length, arith}
use Rattle.std.specs.Prelude.{slice_get, slice_set}
use Rattle.lp_values.specs.declared.id.ObjId.{ObjId}
use Rattle.lp_values.specs.declared.id.ProgId.{ProgId}
use Rattle.lp_cells.specs.Cells.{IsThere}
use Rattle.lp_language.specs.World.{World, Version, Object, IsSameVersion, IsSameObject, Keeps, object_at, version_at, with_object, with_version, no_version, is_live}
use Rattle.lp_language.proofs.Kept.{keeps_same, keeps_trans, same_version, same_object, object_kept, get_kept, set_kept}
use Rattle.lp_meaning.specs.WorldSteps.{with_new_object, with_new_version, version_entered, entered, without_object, without_connection_if, destructed, destructed_if, with_file, reloaded, reloaded_blueprint, connection_of, dead}

-- a world with the same versions, objects and cells
pub keeps_these : (w v : World) → v.versions ≡ w.versions → v.objects ≡ w.objects → v.cells ≡ w.cells → Keeps w v
keeps_these w v p q r = record {
  versions = λ n x e. (x, subst (λ xs. slice_get xs n ≡ Some x) (sym p) e, same_version x);
  objects = λ n x e. (x, subst (λ xs. slice_get xs n ≡ Some x) (sym q) e, same_object x);
  cells = λ x h. subst (λ c. IsThere c x) (sym r) h;
  no_fewer = subst (λ c. length w.cells ≤ length c) (sym r) (omega arith);
}

-- an object, or a version, that is the same but for what may change
pub keeps_object : (w : World) (o : ObjId) (y : Object) → IsSameObject (object_at w o) y → Keeps w (with_object w o y)
keeps_object w o y h = record {
  versions = λ n x e. (x, e, same_version x);
  objects = object_kept w o y h;
  cells = λ v h. h;
  no_fewer = omega arith;
}

version_was : (o : Option Version) (x : Version) → o ≡ Some x → unwrap_or o no_version ≡ x
version_was o x e = ap (λ o. unwrap_or o no_version) e

version_kept : (w : World) (v : ProgId) (y : Version) → IsSameVersion (version_at w v) y → (n : ℕ) (x : Version) → slice_get w.versions n ≡ Some x → (x' : Version) × (slice_get (slice_set w.versions v.0 y) n ≡ Some x') × IsSameVersion x x'
version_kept w v y h n x e =
    elim (set_kept w.versions v.0 n y x e) [ inl was ↦ (x, was, same_version x) | inr both ↦ (y, both.0, subst (λ z. IsSameVersion z y) (version_was (slice_get w.versions v.0) x both.1) h) ]

pub keeps_version : (w : World) (v : ProgId) (y : Version) → IsSameVersion (version_at w v) y → Keeps w (with_version w v y)
keeps_version w v y h = record {
  versions = version_kept w v y h;
  objects = λ n x e. (x, e, same_object x);
  cells = λ v h. h;
  no_fewer = omega arith;
}

pub keeps_new_version : (w : World) (v : Version) → Keeps w (with_new_version w v)
keeps_new_version w v = record {
  versions = λ n x e. (x, get_kept w.versions (v ∷ []) n x e, same_version x);
  objects = λ n x e. (x, e, same_object x);
  cells = λ v h. h;
  no_fewer = omega arith;
}

pub keeps_new_object : (w : World) (name : List ℕ) (v : ProgId) → Keeps w (with_new_object w name v)
keeps_new_object w name v = record {
  versions = λ n x e. (x, e, same_version x);
  objects = λ n x e. (x, get_kept w.objects _ n x e, same_object x);
  cells = λ v h. h;
  no_fewer = omega arith;
}

keeps_version_entered : (w : World) (v : ProgId) → Keeps w (version_entered w v)
keeps_version_entered w v = keeps_version w v (record (version_at w v) { latest = w.clock }) (record { path = refl; items = refl; parents = refl; pragmas = refl; simuls = refl })

pub keeps_entered : (w : World) (o : ObjId) (v : ProgId) → Keeps w (entered w o v)
keeps_entered w o v =
    let w1 = with_object w o (record (object_at w o) { latest = w.clock }) in
    let w2 = version_entered w1 (object_at w o).version in
    keeps_trans w w1 (entered w o v) (keeps_object w o (record (object_at w o) { latest = w.clock }) (record { name = refl; version = refl }))
    (keeps_trans w1 w2 (entered w o v) (keeps_version_entered w1 (object_at w o).version) (keeps_version_entered w2 v))

keeps_without_object : (w : World) (o : ObjId) → Keeps w (without_object w o)
keeps_without_object w o =
    let w1 = with_object w o (dead (object_at w o)) in
    keeps_trans w w1 (without_object w o) (keeps_object w o (dead (object_at w o)) (record { name = refl; version = refl })) (keeps_these w1 (without_object w o) refl refl refl)

keeps_without_connection : (w : World) (k : Option ℕ) → Keeps w (without_connection_if w k)
keeps_without_connection w None = keeps_same w
keeps_without_connection w (Some k) = keeps_these w (without_connection_if w (Some k)) refl refl refl

keeps_cond : (w : World) (b : Bool) (u v : World) → Keeps w u → Keeps w v → Keeps w (cond b u v)
keeps_cond w true u v h g = h
keeps_cond w false u v h g = g

pub keeps_destructed : (w : World) (o : ObjId) → Keeps w (destructed w o)
keeps_destructed w o =
    let w1 = without_object w o in
    keeps_cond w (is_live w o) (without_connection_if w1 (connection_of w o)) w (keeps_trans w w1 (without_connection_if w1 (connection_of w o)) (keeps_without_object w o) (keeps_without_connection w1 (connection_of w o))) (keeps_same w)

keeps_destructed_if : (w : World) (o : Option ObjId) → Keeps w (destructed_if w o)
keeps_destructed_if w None = keeps_same w
keeps_destructed_if w (Some o) = keeps_destructed w o

pub keeps_reloaded : (w : World) (path bytes : List ℕ) → Keeps w (reloaded w path bytes)
keeps_reloaded w path bytes =
    let w1 = with_file w path bytes in
    keeps_trans w w1 (reloaded w path bytes) (keeps_these w w1 refl refl refl) (keeps_destructed_if w1 (reloaded_blueprint w path))
