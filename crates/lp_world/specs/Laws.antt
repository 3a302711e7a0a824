-- What the state still stands for where cells or a variable change in it and in the world alike.
use Rattle.std.specs.Prelude.{◌≡◌, ◌+◌, ◌++◌, ℕ, All, Bool, List, [], ◌∷◌, Option, Some, slice_get, slice_set}
use Rattle.lp_values.specs.declared.id.CellId.{CellId}
use Rattle.lp_values.specs.declared.id.ObjId.{ObjId}
use Rattle.lp_values.specs.declared.id.ProgId.{ProgId}
use Rattle.lp_values.specs.declared.value.Value.{Value}
use Rattle.lp_cells.specs.Cells as cells
use Rattle.lp_cells.specs.Cells.{IsThere, KeepsThere, Store, content_set, with_cell}
use Rattle.lp_cells.specs.declared.content.Content.{Content}
use Rattle.lp_language.specs.Operands.{operand}
use Rattle.lp_places.specs.declared.places.Places.{Places}
use Rattle.lp_timers.specs.Timing.{Timing}
use Rattle.lp_code.specs.declared.program.RawProgram.{RawProgram}
use Rattle.lp_swapfile.specs.Device.{Bytes}
use Rattle.lp_language.specs.World.{World, is_live, object_at, version_at, with_cells, with_object}
use Rattle.lp_language.specs.Operations.{with_variable}
use Rattle.lp_meaning.specs.WorldSteps.{version_of_object}
use Rattle.lp_world.specs.declared.live.Live.{Live}
use Rattle.lp_world.specs.declared.objects.Object.{Object}
use Rattle.lp_world.specs.declared.objects.ObjectState.TheVariants as objects_of
use Rattle.lp_world.specs.declared.versions.Version.{Version}
use Rattle.lp_world.specs.Closed.{ArePlaced, IsClosed}
use Rattle.lp_world.specs.Rows.{live_in, row_at, version_path, with_value}
use Rattle.lp_world.specs.Stands.{IsPart, Stands}

-- the same objects are live
abbrev pub TheSameLive : Type 0
TheSameLive = (told : Option Bytes) (programs : List RawProgram) (live : Live) (w : World) → Stands told programs live w → live_in live.objects ≡ is_live w

-- a value whose cell is there is one operand in both
abbrev pub TheSameOperands : Type 0
TheSameOperands = (l : ObjId → Bool) (part whole : Store) (v : Value) → IsPart part whole → IsThere part v → operand l part v ≡ operand l whole v

-- a new cell in both
abbrev pub NewCellStands : Type 0
NewCellStands = (told : Option Bytes) (programs : List RawProgram) (live : Live) (w : World) (x : Content)
    → Stands told programs live w → Stands told programs (record live { cells = with_cell live.cells x }) (with_cells w (with_cell w.cells x))

-- another content of a cell that the state has
abbrev pub WriteStands : Type 0
WriteStands = (told : Option Bytes) (programs : List RawProgram) (live : Live) (w : World) (c : CellId) (old new : Content)
    → Stands told programs live w → slice_get live.cells c.0 ≡ Some (Some old)
    → Stands told programs (record live { cells = content_set live.cells c new }) (with_cells w (content_set w.cells c new))

abbrev pub VariableStands : Type 0
VariableStands = (told : Option Bytes) (programs : List RawProgram) (live : Live) (w : World) (o : ObjId) (row : Object) (vs : List Value) (k : ℕ) (v : Value)
    → Stands told programs live w → slice_get live.objects o.0 ≡ Some (Some row) → row.state ≡ objects_of.Resident vs
    → Stands told programs (record live { objects = slice_set live.objects o.0 (Some (with_value row vs k v)) }) (with_object w o (with_variable (object_at w o) k v))

-- Closed states stay closed where cells change so that nothing is lost and they are closed by themselves, ..
abbrev pub CellsStayClosed : Type 0
CellsStayClosed = (live : Live) (part : Store) → IsClosed live → KeepsThere live.cells part → cells.IsClosed part → IsClosed (record live { cells = part })

-- .. and where a variable of an object in memory gets a value that is there
abbrev pub VariablesStayClosed : Type 0
VariablesStayClosed = (live : Live) (o : ObjId) (row : Object) (vs : List Value) (k : ℕ) (v : Value)
    → IsClosed live → slice_get live.objects o.0 ≡ Some (Some row) → row.state ≡ objects_of.Resident vs → IsThere live.cells v
    → IsClosed (record live { objects = slice_set live.objects o.0 (Some (with_value row vs k v)) })

-- Closed states stay closed where other places come that stand for something, ..
abbrev pub PlacesStayClosed : Type 0
PlacesStayClosed = (live : Live) (t : Places) → IsClosed live → ArePlaced t → IsClosed (record live { places = t })

-- what is to come with a call-out more, which has the next number
abbrev pub with_call_out : Timing → ObjId → List ℕ → ℕ → List Value → Timing
with_call_out t o function due vs =
    record { next = t.next + 1; call_outs = t.call_outs ++ record { number = t.next; object = o; function = function; due = due; arguments = vs } ∷ []; beats = t.beats; watches = t.watches }

-- .. and where a call-out comes whose arguments are there.
abbrev pub CallOutStaysClosed : Type 0
CallOutStaysClosed = (live : Live) (o : ObjId) (function : List ℕ) (due : ℕ) (vs : List Value)
    → IsClosed live → All (IsThere live.cells) vs → IsClosed (record live { timers = with_call_out live.timers o function due vs })

-- The path of a version is that of the world's, ..
abbrev pub VersionsHavePaths : Type 0
VersionsHavePaths = (told : Option Bytes) (programs : List RawProgram) (live : Live) (w : World) (p : ProgId) (v : Version)
    → Stands told programs live w → row_at live.versions p.0 ≡ Some v → v.path ≡ (version_at w p).path

-- .. and the state has that of each object's version.
abbrev pub ObjectsHavePaths : Type 0
ObjectsHavePaths = (told : Option Bytes) (programs : List RawProgram) (live : Live) (w : World) (o : ObjId) (row : Object)
    → Stands told programs live w → IsClosed live → row_at live.objects o.0 ≡ Some row → version_path (row_at live.versions row.program.0) ≡ Some (version_of_object w o).path
