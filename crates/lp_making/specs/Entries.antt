-- A function entry counts: the latest clocks of an object, of its version, and of the version in whose text the function stands.
use Rattle.std.specs.Prelude.{List, Option, Some, None, IsSome, slice_set}
use Rattle.lp_values.specs.declared.id.ObjId.{ObjId}
use Rattle.lp_values.specs.declared.id.ProgId.{ProgId}
use Rattle.lp_code.specs.declared.program.RawProgram.{RawProgram}
use Rattle.lp_swapfile.specs.Device.{Bytes}
use Rattle.lp_language.specs.World.{World}
use Rattle.lp_meaning.specs.WorldSteps.{entered}
use Rattle.lp_world.specs.Closed.{IsClosed}
use Rattle.lp_world.specs.Rows.{object_aged, row_at, version_aged}
use Rattle.lp_world.specs.Stands.{Stands}
use Rattle.lp_world.specs.declared.live.Live.{Live}
use Rattle.lp_world.specs.declared.objects.Object.{Object}
use Rattle.lp_part_laws.specs.Versions.{AreSameVersions}

-- an entry counts for an object
abbrev pub object_counted : Live → ObjId → Live
object_counted l o = record l { objects = slice_set l.objects o.0 (object_aged l.clock (row_at l.objects o.0)) }

-- and for a version
abbrev pub version_counted : Live → ProgId → Live
version_counted l p = record l { versions = slice_set l.versions p.0 (version_aged l.clock (row_at l.versions p.0)) }

-- the version of an object that is there
abbrev pub program_in : Option Object → ProgId
program_in None = record { 0 = 0 }
program_in (Some o) = o.program

-- an entry of an object's function, in the text of a version
abbrev pub entry_counted : Live → ObjId → ProgId → Live
entry_counted l o p = version_counted (version_counted (object_counted l o) (program_in (row_at l.objects o.0))) p

-- For each world that the state stood for it stands for the world after the entry.
abbrev pub StandsEntered : Live → Live → ObjId → ProgId → Type 0
StandsEntered old new o p = (told : Option Bytes) (programs : List RawProgram) (w : World) → Stands told programs old w → Stands told programs new (entered w o p)

-- The state stands for the world after the entry, where it has the object.
abbrev pub EntryStands : Type 0
EntryStands =
    (told : Option Bytes) (programs : List RawProgram) (live : Live) (w : World) (o : ObjId) (p : ProgId) → Stands told programs live w → IsSome (row_at live.objects o.0)
    → Stands told programs (entry_counted live o p) (entered w o p)

-- It stays closed.
abbrev pub EntryStaysClosed : Type 0
EntryStaysClosed = (live : Live) (o : ObjId) (p : ProgId) → IsClosed live → IsClosed (entry_counted live o p)

-- In the world nothing but clocks changes in the versions.
abbrev pub EntryKeepsVersions : Type 0
EntryKeepsVersions = (w : World) (o : ObjId) (p : ProgId) → AreSameVersions w.versions (entered w o p).versions
