-- What a reload leaves, and what is made afterwards.
use Rattle.std.specs.Prelude.{◌≡◌, ◌++◌, ◌∷◌, ℕ, List, [], Some, false, if◌then◌else◌}
use Rattle.lp_values.specs.declared.id.ObjId.{ObjId}
use Rattle.lp_values.specs.declared.id.ProgId.{ProgId}
use Rattle.lp_instr.specs.EfunList.{is_name}
use Rattle.lp_language.specs.Course.{Failed, State, Wanted, and_then, stops}
use Rattle.lp_language.specs.World.{Version, World, is_live, object_at, version_at}
use Rattle.lp_values.specs.declared.error.ErrorKind.TheVariants.{NoClone, TooMany}
use Rattle.lp_values.specs.Errors.{plain}
use Rattle.lp_meaning.specs.Askers.{Asker}
use Rattle.lp_meaning.specs.FileLoads.{clone_name, cloning, making, object_reply, with_clone_number}
use Rattle.lp_meaning.specs.WorldSteps.{file_at, has_room, next_object, next_version, reloaded, reloaded_blueprint, version_of_object, with_new_object, with_new_version}

-- What a reload leaves: the file has the new text, and each other file its own; no version is another one, and each object has the one that
-- it had; the blueprint of the file, if it lived, lives no longer.
pub record Leaves (w : World) (path bytes : List ℕ) : Type 0 where
  pub text : file_at (reloaded w path bytes).files path ≡ Some bytes
  pub others : (q : List ℕ) → is_name path q ≡ false → file_at (reloaded w path bytes).files q ≡ file_at w.files q
  pub versions : (reloaded w path bytes).versions ≡ w.versions
  pub programs : (o : ObjId) → version_of_object (reloaded w path bytes) o ≡ version_of_object w o
  pub blueprint : (o : ObjId) → reloaded_blueprint w path ≡ Some o → is_live (reloaded w path bytes) o ≡ false

abbrev pub ReloadsKeep : Type 0
ReloadsKeep = (w : World) (path bytes : List ℕ) → Leaves w path bytes

-- What is made: a version stands behind the others, which stay; an object has the version that it is made of; and a clone is made of the
-- version of its blueprint.
pub record Makes (w : World) : Type 0 where
  pub version : (v : Version) → version_at (with_new_version w v) (next_version w) ≡ v
  pub others : (v : Version) → (with_new_version w v).versions ≡ w.versions ++ v ∷ []
  pub object : (name : List ℕ) (v : ProgId) → (object_at (with_new_object w name v) (next_object w)).version ≡ v

-- a clone, once its number is given
abbrev pub ClonesItsProgram : Type 0
ClonesItsProgram = (by : Asker) (name : List ℕ) (o : ObjId) (s : State) → cloning by name o s ≡ (
    if (version_of_object s.world o).pragmas.no_clone then stops (Failed (plain NoClone)) s
    else (if has_room s.world then and_then (making Wanted by (clone_name s.world name) (object_at s.world o).version (record s { world = with_clone_number s.world })) object_reply
    else stops (Failed (plain TooMany)) s))

abbrev pub MakingGives : Type 0
MakingGives = ((w : World) → Makes w) × ClonesItsProgram
