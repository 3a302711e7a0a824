-- The names that a file sees of the simul-efun object.
use Rattle.std.specs.Prelude.{◌≡◌, ◌++◌, ℕ, List, [], Option, Some, None, ◌||◌, filter, is_some, slice_get, if◌then◌else◌}
use Rattle.lp_values.specs.declared.id.ObjId.{ObjId}
use Rattle.lp_values.specs.declared.id.ProgId.{ProgId}
use Rattle.lp_code.specs.declared.program.RawProgram.{RawProgram}
use Rattle.lp_swapfile.specs.Device.{Bytes}
use Rattle.lp_language.specs.Course as course
use Rattle.lp_language.specs.World.{World, object_named}
use Rattle.lp_language.specs.Resolve.{Heritage, Heritages, callable_names, heritage_of, heritage_within, names_before, names_in}
use Rattle.lp_meaning.specs.FileLoads.{is_under_way, simul_names}
use Rattle.lp_world.specs.declared.live.Live.{Live}
use Rattle.lp_asking.specs.declared.asker.Loading.{Loading}
use Rattle.lp_targets.specs.Callees.{IsWorldOf}
use Rattle.lp_loading.specs.Loads.{loads_of}
use Rattle.lp_loading.specs.Rows.{is_open}

-- the names of the functions of a tree that every object may call in an object of a program
abbrev pub open_in : RawProgram → Heritage → List (List ℕ)
open_in whole h = filter (is_open whole) (names_in h)

abbrev pub open_before : RawProgram → Heritages → List (List ℕ)
open_before whole hs = filter (is_open whole) (names_before hs)

-- Those of the tree of a version down to a depth were put behind others, in each world for which the state stood.
abbrev pub PutsTree : Option Bytes → Live → RawProgram → ℕ → ProgId → List (List ℕ) → List (List ℕ) → Type 0
PutsTree told live whole depth version names0 names1 =
    (programs : List RawProgram) (w : World) → IsWorldOf told programs live w → names1 ≡ names0 ++ open_in whole (heritage_within depth w version)

-- the object whose functions a file sees, while these loads are under way
abbrev pub seen_simul : World → List course.Loading → Option ObjId
seen_simul w loads = elim w.simul [ Some name ↦ if is_under_way name loads then None else object_named w name | None ↦ None ]

-- the names of its functions
abbrev pub names_seen : World → Option ObjId → List (List ℕ)
names_seen w None = []
names_seen w (Some o) = callable_names (heritage_of w o)

-- what a file sees, while these loads are under way
abbrev pub SeesSimuls : Option Bytes → Live → List Loading → List (List ℕ) → Type 0
SeesSimuls told live loads names = (programs : List RawProgram) (w : World) → IsWorldOf told programs live w → names ≡ simul_names w (loads_of loads)

-- the name of an object that has to be loaded: it is not live, and its own load is not under way
abbrev pub missing_if : World → List ℕ → List course.Loading → Option (List ℕ)
missing_if w name loads = if is_some (object_named w name) || is_under_way name loads then None else Some name

-- a program is that of a version, in each world for which the state stands
abbrev pub IsProgramNow : Option Bytes → Live → ProgId → RawProgram → Type 0
IsProgramNow told live p code = (programs : List RawProgram) (w : World) → IsWorldOf told programs live w → slice_get programs p.0 ≡ Some code
