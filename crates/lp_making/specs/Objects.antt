-- An object more: a state and a world before and after.
use Rattle.std.specs.Prelude.{◌≡◌, ℕ, List, ◌++◌, ◌⊎◌, Bool, true, false, Option, Some, None, IsSome, is_some, ⊤, codes, replicate, pos, slice_get}
use Rattle.lp_values.specs.declared.id.ObjId.{ObjId}
use Rattle.lp_values.specs.declared.id.ProgId.{ProgId}
use Rattle.lp_values.specs.declared.value.Value.{Value}
use Rattle.lp_values.specs.declared.value.Value.TheVariants.{Int}
use Rattle.lp_code.specs.declared.program.RawProgram.{RawProgram}
use Rattle.lp_objects.specs.Objects.{Named}
use Rattle.lp_objects.specs.Stands as names
use Rattle.lp_objects.specs.Stands.{IsNotAdded}
use Rattle.lp_objects.specs.declared.fault.ObjectFault.{ObjectFault}
use Rattle.lp_objects.specs.declared.fault.ObjectFault.TheVariants.{NameTaken, NoMemory, TooMany}
use Rattle.lp_objects.specs.declared.objects.Objects.{Objects}
use Rattle.lp_swapfile.specs.Device.{Bytes}
use Rattle.lp_timers.specs.Timers.{WatchKind, Reset, CleanUp, is_watched, unwatched}
use Rattle.lp_timers.specs.Timing.{Timing}
use Rattle.lp_layout.specs.Layout.{slot_named}
use Rattle.lp_inherit.specs.Heirs.{with_function}
use Rattle.lp_language.specs.World.{World, object_named}
use Rattle.lp_meaning.specs.WorldSteps as steps
use Rattle.lp_meaning.specs.WorldSteps.{has_room, watch_if}
use Rattle.lp_world.specs.Additions.{new_object, with_new_object}
use Rattle.lp_world.specs.Rows.{row_at, version_state}
use Rattle.lp_world.specs.Stands.{Stands, heritage_in}
use Rattle.lp_world.specs.declared.live.Live.{Live}
use Rattle.lp_world.specs.declared.versions.Version.{Version}
use Rattle.lp_residence.specs.Owners.{program_of}
use Rattle.lp_making.specs.Trees.{HasTables}

-- the program of a version that is in memory
abbrev pub program_at : List (Option Version) → ProgId → Option RawProgram
program_at rows p = program_of (version_state (row_at rows p.0))

-- a program has a function of a name
abbrev pub has_function : RawProgram → List ℕ → Bool
has_function p w = is_some (with_function (slot_named p.tables.slots w))

-- variables of a new object
abbrev pub zeros : ℕ → List Value
zeros n = replicate n (Int (pos 0))

-- an object is not watched
pub record IsUnwatched (t : Timing) (o : ObjId) : Type 0 where
  pub reset : is_watched t.watches Reset o ≡ false
  pub clean_up : is_watched t.watches CleanUp o ≡ false

-- what is to come with a watch more, where the program has the function
abbrev pub with_watch : Timing → Bool → WatchKind → ObjId → ℕ → Timing
with_watch t has kind o now = record { next = t.next; call_outs = t.call_outs; beats = t.beats; watches = t.watches ++ watch_if has kind o now }

-- with both watches of a new object
abbrev pub with_watches : Timing → Bool → Bool → ObjId → ℕ → Timing
with_watches t reset clean_up o now =
    record { next = t.next; call_outs = t.call_outs; beats = t.beats; watches = t.watches ++ watch_if reset Reset o now ++ watch_if clean_up CleanUp o now }

-- what is to come without the watches of an object
abbrev pub without_watches : Timing → ObjId → Timing
without_watches t o = record { next = t.next; call_outs = t.call_outs; beats = t.beats; watches = unwatched (unwatched t.watches Reset o) CleanUp o }

-- What a new object is watched for.
pub record IsWanted (p : RawProgram) (reset clean_up : Bool) : Type 0 where
  pub resets : reset ≡ has_function p (codes "reset")
  pub cleans_up : clean_up ≡ has_function p (codes "clean_up")

-- and an object of a version whose program this is, if it is in memory
abbrev pub IsWantedOf : Option RawProgram → Bool → Bool → Type 0
IsWantedOf None reset clean_up = ⊥
IsWantedOf (Some p) reset clean_up = IsWanted p reset clean_up

-- the state with an object more in memory, with these names and with this to come
abbrev pub with_object : Live → ProgId → List Value → Objects → Timing → Live
with_object old p vs table t = record (with_new_object old (new_object p old.clock vs)) { names = table; timers = t }

-- No object was made: for want of memory, which may come first, or for the reason that the names have.
abbrev pub IsRefused : Objects → List Named → List ℕ → ObjectFault → Type 0
IsRefused table objects name e = ((e ≡ NoMemory) × names.Stands table objects) ⊎ IsNotAdded table objects name e

-- For each world that the state stood for, whose version has the tables that the program has, it stands for that world with
-- the object more.
abbrev pub StandsWithObject : Live → Live → List ℕ → ProgId → Type 0
StandsWithObject old new name p =
    (told : Option Bytes) (programs : List RawProgram) (w : World) → Stands told programs old w → ((raw : RawProgram) → slice_get programs p.0 ≡ Some raw → HasTables (heritage_in w.versions p) raw)
    → Stands told programs new (steps.with_new_object w name p) × (has_room w ≡ true) × (object_named w name ≡ None)

-- Why there is no object: a live one has the name; or else there is no room. Of want of memory nothing is said.
abbrev pub IsNotMade : World → List ℕ → ObjectFault → Type 0
IsNotMade w name NameTaken = IsSome (object_named w name)
IsNotMade w name TooMany = (object_named w name ≡ None) × (has_room w ≡ false)
IsNotMade w name NoMemory = ⊤

-- For each world that the state stood for it stands for the same one.
abbrev pub StandsStill : Live → Live → List ℕ → ObjectFault → Type 0
StandsStill old new name e =
    (told : Option Bytes) (programs : List RawProgram) (w : World) → Stands told programs old w → Stands told programs new w × IsNotMade w name e
