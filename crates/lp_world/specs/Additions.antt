-- A version or an object more.
use Rattle.std.specs.Prelude.{◌≡◌, ℕ, List, [], ◌∷◌, ◌++◌, Option, Some, None, All, true, false, length}
use Rattle.lp_values.specs.declared.id.ProgId.{ProgId}
use Rattle.lp_values.specs.declared.value.Value.{Value}
use Rattle.lp_cells.specs.Cells.{IsThere}
use Rattle.lp_code.specs.declared.program.RawProgram.{RawProgram}
use Rattle.lp_world.specs.declared.live.Live.{Live}
use Rattle.lp_world.specs.declared.objects.Object.{Object}
use Rattle.lp_world.specs.declared.objects.ObjectState.TheVariants as objects_of
use Rattle.lp_world.specs.declared.versions.ProgramState.TheVariants as programs_of
use Rattle.lp_world.specs.declared.versions.Version.{Version}
use Rattle.lp_world.specs.Closed.{IsClosed, IsVersionClosed}
use Rattle.lp_world.specs.Rows.{row_at}
use Rattle.lp_world.specs.Stands.{IsOutline}
use Rattle.lp_world.specs.Targets.{answer_at}

-- a version of a program in memory that was compiled from a file, with the outline of its tables and without kept answers
pub record IsVersionOf (time : ℕ) (file : List ℕ) (p : RawProgram) (v : Version) : Type 0 where
  pub path : v.path ≡ file
  pub latest : v.latest ≡ time
  pub outline : IsOutline p v.outline
  pub state : v.state ≡ programs_of.Resident p
  pub targets : (part slot : ℕ) → answer_at v.targets part slot ≡ None

-- it comes behind the others
pub record IsVersionAdded (old new : List (Option Version)) (time : ℕ) (file : List ℕ) (p : RawProgram) : Type 0 where
  pub version : Version
  pub after : new ≡ old ++ Some version ∷ []
  pub is : IsVersionOf time file p version

-- a live object in memory, which is not living
abbrev pub new_object : ProgId → ℕ → List Value → Object
new_object p time vs = record { program = p; is_live = true; is_living = false; latest = time; state = objects_of.Resident vs }

-- the state with a version more, and with an object more
abbrev pub with_new_version : Live → Version → Live
with_new_version l v = record l { versions = l.versions ++ Some v ∷ [] }

abbrev pub with_new_object : Live → Object → Live
with_new_object l o = record l { objects = l.objects ++ Some o ∷ [] }

-- A closed state stays closed where a version comes behind the others whose program is in memory, which has what a closed one has, ..
abbrev pub NewVersionStaysClosed : Type 0
NewVersionStaysClosed = (live : Live) (v : Version) (p : RawProgram) → IsClosed live → v.state ≡ programs_of.Resident p
    → IsVersionClosed (live.versions ++ Some v ∷ []) (length live.versions) v → IsClosed (with_new_version live v)

-- .. and where an object comes in memory of a version that is there, with as many variables as that says, whose cells are there.
abbrev pub NewObjectStaysClosed : Type 0
NewObjectStaysClosed = (live : Live) (p : ProgId) (time : ℕ) (vs : List Value) (version : Version) → IsClosed live
    → row_at live.versions p.0 ≡ Some version → length vs ≡ version.outline.variables → All (IsThere live.cells) vs
    → IsClosed (with_new_object live (new_object p time vs))
