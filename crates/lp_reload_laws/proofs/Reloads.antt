-- What a reload leaves.
use Rattle.std.proofs.Common.{◌≡◌, ◌∙◌, ◌++◌, ◌∷◌, ℕ, zero, suc, Bool, true, false, List, [], Option, Some, None, ap, length, refl, subst, sym, inl, inr}
use Rattle.std.specs.Prelude.{if◌then◌else◌, slice_get, slice_set, unwrap_or}
use Rattle.std.proofs.lemmas.Bool.{cases_Bool}
use Rattle.std.proofs.lemmas.Slice.Eq.{bytes_eq-Decides}
use Rattle.lp_values.specs.declared.id.ObjId.{ObjId}
use Rattle.lp_values.specs.declared.id.ProgId.{ProgId}
use Rattle.lp_instr.specs.EfunList.{is_name}
use Rattle.lp_language.specs.World.{File, Object, Version, World, is_live, no_object, no_version, object_at, version_at}
use Rattle.lp_meaning.specs.WorldSteps.{connection_of, dead, destructed_if, file_at, file_written, reloaded, reloaded_blueprint, version_of_object, with_file, without_connection_if, without_object}
use Rattle.lp_reload_laws.specs.Reloads.{Leaves, Makes}

-- Files

same_name : (p : List ℕ) → is_name p p ≡ true
same_name p = (bytes_eq-Decides p p).1 refl

written_here : (fs : List File) (path bytes : List ℕ) → file_at (file_written fs path bytes) path ≡ Some bytes
written_here [] path bytes = rw (same_name path) refl
written_here (f ∷ fs) path bytes = elim (cases_Bool (is_name f.path path)) [
  | inl t ↦ rw t (rw (same_name path) refl)
  | inr n ↦ rw n (rw n (written_here fs path bytes))
]

written_elsewhere : (fs : List File) (path bytes q : List ℕ) → is_name path q ≡ false → file_at (file_written fs path bytes) q ≡ file_at fs q
written_elsewhere [] path bytes q e = rw e refl
written_elsewhere (f ∷ fs) path bytes q e = elim (cases_Bool (is_name f.path path)) [
  | inl t ↦
      let other : is_name f.path q ≡ false = subst (λ (p : List ℕ). is_name p q ≡ false) (sym ((bytes_eq-Decides f.path path).0 t)) e in
      rw t (rw e (rw other refl))
  | inr n ↦ rw n (elim (cases_Bool (is_name f.path q)) [
    | inl s ↦ rw s refl
    | inr o ↦ rw o (written_elsewhere fs path bytes q e)
  ])
]

-- Objects

same_version : (xs : List Object) (i j : ℕ) (x : Object) → x.version ≡ (unwrap_or (slice_get xs i) no_object).version → (unwrap_or (slice_get (slice_set xs i x) j) no_object).version ≡ (unwrap_or (slice_get xs j) no_object).version
same_version [] i j x h = refl
same_version (y ∷ ys) zero zero x h = h
same_version (y ∷ ys) zero (suc j) x h = refl
same_version (y ∷ ys) (suc i) zero x h = refl
same_version (y ∷ ys) (suc i) (suc j) x h = same_version ys i j x h

is_dead : (xs : List Object) (i : ℕ) (x : Object) → x.is_live ≡ false → (unwrap_or (slice_get (slice_set xs i x) i) no_object).is_live ≡ false
is_dead [] i x h = refl
is_dead (y ∷ ys) zero x h = h
is_dead (y ∷ ys) (suc i) x h = is_dead ys i x h

-- An object ends, if it lives: the versions and the files stay, and each object has its version still.
ended_files : (b : Bool) (c : Option ℕ) (w : World) (o : ObjId) → (if b then without_connection_if (without_object w o) c else w).files ≡ w.files
ended_files true None w o = refl
ended_files true (Some k) w o = refl
ended_files false c w o = refl

ended_versions : (b : Bool) (c : Option ℕ) (w : World) (o : ObjId) → (if b then without_connection_if (without_object w o) c else w).versions ≡ w.versions
ended_versions true None w o = refl
ended_versions true (Some k) w o = refl
ended_versions false c w o = refl

ended_programs : (b : Bool) (c : Option ℕ) (w : World) (o p : ObjId) → (object_at (if b then without_connection_if (without_object w o) c else w) p).version ≡ (object_at w p).version
ended_programs true None w o p = same_version w.objects o.0 p.0 (dead (object_at w o)) refl
ended_programs true (Some k) w o p = same_version w.objects o.0 p.0 (dead (object_at w o)) refl
ended_programs false c w o p = refl

ended_dead : (b : Bool) (c : Option ℕ) (w : World) (o : ObjId) → is_live w o ≡ b → is_live (if b then without_connection_if (without_object w o) c else w) o ≡ false
ended_dead true None w o e = is_dead w.objects o.0 (dead (object_at w o)) refl
ended_dead true (Some k) w o e = is_dead w.objects o.0 (dead (object_at w o)) refl
ended_dead false c w o e = e

if_files : (x : Option ObjId) (w : World) → (destructed_if w x).files ≡ w.files
if_files None w = refl
if_files (Some o) w = ended_files (is_live w o) (connection_of w o) w o

if_versions : (x : Option ObjId) (w : World) → (destructed_if w x).versions ≡ w.versions
if_versions None w = refl
if_versions (Some o) w = ended_versions (is_live w o) (connection_of w o) w o

if_programs : (x : Option ObjId) (w : World) (p : ObjId) → (object_at (destructed_if w x) p).version ≡ (object_at w p).version
if_programs None w p = refl
if_programs (Some o) w p = ended_programs (is_live w o) (connection_of w o) w o p

same_program : (old new : World) (o : ObjId) → new.versions ≡ old.versions → (object_at new o).version ≡ (object_at old o).version → version_of_object new o ≡ version_of_object old o
same_program old new o vs v =
    ap (λ (us : List Version). unwrap_or (slice_get us (object_at new o).version.0) no_version) vs ∙ ap (λ (p : ProgId). version_at old p) v

pub leaves : (w : World) (path bytes : List ℕ) → Leaves w path bytes
leaves w path bytes =
    let one : World = with_file w path bytes in
    let x : Option ObjId = reloaded_blueprint w path in
    record {
      text = ap (λ (fs : List File). file_at fs path) (if_files x one) ∙ written_here w.files path bytes;
      others = λ q e. ap (λ (fs : List File). file_at fs q) (if_files x one) ∙ written_elsewhere w.files path bytes q e;
      versions = if_versions x one;
      programs = λ o. same_program w (reloaded w path bytes) o (if_versions x one) (if_programs x one o);
      blueprint = λ o e. subst (λ (y : Option ObjId). is_live (destructed_if one y) o ≡ false) (sym e) (ended_dead (is_live one o) (connection_of one o) one o refl);
    }

-- What is made stands last.
at_end : {A : Type 0} (xs : List A) (x d : A) → unwrap_or (slice_get (xs ++ x ∷ []) (length xs)) d ≡ x
at_end [] x d = refl
at_end (y ∷ ys) x d = at_end ys x d

pub makes : (w : World) → Makes w
makes w = record {
  version = λ v. at_end w.versions v no_version;
  others = λ v. refl;
  object = λ name v. ap (λ (x : Object). x.version) (at_end w.objects _ no_object);
}
