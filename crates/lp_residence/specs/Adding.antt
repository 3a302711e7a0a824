-- A version or an object comes to a state.
use Rattle.std.specs.Prelude.{◌≡◌, ◌⊎◌, ℕ, List, All, Option, Some, length}
use Rattle.lp_values.specs.declared.id.ProgId.{ProgId}
use Rattle.lp_values.specs.declared.value.Value.{Value}
use Rattle.lp_values.specs.declared.id.ObjId.{ObjId}
use Rattle.lp_cells.specs.Cells.{IsThere}
use Rattle.lp_code.specs.declared.program.RawProgram.{RawProgram}
use Rattle.lp_objects.specs.Objects.{Named}
use Rattle.lp_objects.specs.Stands as names
use Rattle.lp_objects.specs.Stands.{IsAdded, IsNotAdded}
use Rattle.lp_objects.specs.declared.fault.ObjectFault.{ObjectFault}
use Rattle.lp_objects.specs.declared.fault.ObjectFault.TheVariants.{NoMemory}
use Rattle.lp_objects.specs.declared.objects.Objects.{Objects}
use Rattle.lp_world.specs.Additions.{IsVersionOf, new_object, with_new_object, with_new_version}
use Rattle.lp_world.specs.Closed.{IsVersionClosed}
use Rattle.lp_world.specs.Rows.{row_at}
use Rattle.lp_world.specs.declared.live.Live.{Live}
use Rattle.lp_world.specs.declared.versions.Version.{Version}

-- A version of a program that was compiled from a file comes behind the others, made at the state's clock, and all else is as
-- it was.
pub record IsNewVersion (old new : Live) (file : List ℕ) (p : RawProgram) : Type 0 where
  pub version : Version
  pub is : IsVersionOf old.clock file p version
  pub after : new ≡ with_new_version old version

-- a version that is there is closed
abbrev pub IsClosedAt : List (Option Version) → ℕ → Type 0
IsClosedAt versions n = (v : Version) → row_at versions n ≡ Some v → IsVersionClosed versions n v

-- An object comes behind the others, made at the state's clock; the names change, and all else is as it was.
abbrev pub with_object : Live → ProgId → List Value → Objects → Live
with_object old p vs table = record (with_new_object old (new_object p old.clock vs)) { names = table }

abbrev pub with_names : Live → Objects → Live
with_names old table = record old { names = table }

-- No object was made: for want of memory, which may come first, or for the reason that the names have.
abbrev pub IsRefused : Objects → List Named → List ℕ → ObjectFault → Type 0
IsRefused table objects name e = ((e ≡ NoMemory) × names.Stands table objects) ⊎ IsNotAdded table objects name e

-- The names have it, under the serial that they count.
abbrev pub IsNamed : Objects → List Named → List ℕ → ProgId → Type 0
IsNamed table objects name p = (id : ObjId) × IsAdded table objects name p id

-- An object of a version can have these variables: the version is there, they are as many as it says, and each cell is there.
pub record AreRight (l : Live) (p : ProgId) (vs : List Value) : Type 0 where
  pub version : Version
  pub there : row_at l.versions p.0 ≡ Some version
  pub count : length vs ≡ version.outline.variables
  pub cells : All (IsThere l.cells) vs
