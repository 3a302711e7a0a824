-- The rows of the state.
use Rattle.std.specs.Prelude.{◌≡◌, ◌<◌, ℕ, List, [], Option, Some, None, Bool, true, false, length, slice_get, slice_set, unwrap_or, if◌then◌else◌}
use Rattle.lp_values.specs.declared.id.CellId.{CellId}
use Rattle.lp_values.specs.declared.id.ObjId.{ObjId}
use Rattle.lp_values.specs.declared.value.Value.{Value}
use Rattle.lp_swapper.specs.declared.ticket.Ticket.{Ticket}
use Rattle.lp_world.specs.declared.objects.Object.{Object}
use Rattle.lp_world.specs.declared.objects.ObjectState.{ObjectState}
use Rattle.lp_world.specs.declared.objects.ObjectState.TheVariants as objects_of
use Rattle.lp_world.specs.declared.versions.ProgramState.{ProgramState}
use Rattle.lp_world.specs.declared.versions.ProgramState.TheVariants as programs_of
use Rattle.lp_world.specs.declared.versions.Version.{Version}

-- the row with a number, if there is one
abbrev pub row_at : {A : Type 0} → List (Option A) → ℕ → Option A
row_at rows n = unwrap_or (slice_get rows n) None

-- whether a row is that of a live object
abbrev pub is_live_row : Option Object → Bool
is_live_row (Some o) = o.is_live
is_live_row None = false

-- which objects are live
unfoldable pub live_in : List (Option Object) → ObjId → Bool
live_in rows o = is_live_row (row_at rows o.0)

-- the variables of an object that is in memory
abbrev pub variables_of : ObjectState → Option (List Value)
variables_of (objects_of.Resident vs) = Some vs
variables_of (objects_of.Swapped t shared own) = None

abbrev pub variables_in : Option Object → Option (List Value)
variables_in None = None
variables_in (Some o) = variables_of o.state

abbrev pub variables_at : List (Option Object) → ObjId → Option (List Value)
variables_at rows o = variables_in (row_at rows o.0)

-- the ticket of an object that is out, the cells that its record names, and those in it
abbrev pub object_ticket : ObjectState → Option Ticket
object_ticket (objects_of.Resident vs) = None
object_ticket (objects_of.Swapped t shared own) = Some t

abbrev pub shared_of : ObjectState → List CellId
shared_of (objects_of.Resident vs) = []
shared_of (objects_of.Swapped t shared own) = shared

abbrev pub own_of : ObjectState → List CellId
own_of (objects_of.Resident vs) = []
own_of (objects_of.Swapped t shared own) = own

abbrev pub own_in : Option Object → List CellId
own_in None = []
own_in (Some o) = own_of o.state

-- the ticket of a program that is out
abbrev pub program_ticket : ProgramState → Option Ticket
program_ticket (programs_of.Resident p) = None
program_ticket (programs_of.Swapped t) = Some t

-- an object in memory has a variable at a place
abbrev pub HasPlace : Option (List Value) → ℕ → Type 0
HasPlace None k = ⊥
HasPlace (Some vs) k = k < length vs

-- an object that is in memory, with another value in one of its variables
abbrev pub with_value : Object → List Value → ℕ → Value → Object
with_value o vs k v = record o { state = objects_of.Resident (slice_set vs k v) }

-- its row was so written, and no other one changed
abbrev pub IsWritten : List (Option Object) → List (Option Object) → ObjId → ℕ → Value → Type 0
IsWritten old new id k v =
    (o : Object) (vs : List Value) → slice_get old id.0 ≡ Some (Some o) → o.state ≡ objects_of.Resident vs → new ≡ slice_set old id.0 (Some (with_value o vs k v))

-- what an object has, and a version
abbrev pub state_in : Option Object → Option ObjectState
state_in None = None
state_in (Some o) = Some o.state

abbrev pub version_state : Option Version → Option ProgramState
version_state None = None
version_state (Some v) = Some v.state

-- the path of the file that a version was compiled from
abbrev pub version_path : Option Version → Option (List ℕ)
version_path None = None
version_path (Some v) = Some v.path

-- a row with another state
abbrev pub row_with_state : Option Object → ObjectState → Option Object
row_with_state None s = None
row_with_state (Some o) s = Some (record o { state = s })

-- whether an object is out
abbrev pub is_out_state : ObjectState → Bool
is_out_state (objects_of.Resident vs) = false
is_out_state (objects_of.Swapped t shared own) = true

abbrev pub is_out_row : Option Object → Bool
is_out_row None = false
is_out_row (Some o) = is_out_state o.state

-- the row of an object that died: it keeps its variables until the turn ends where they are in memory; of one that was out nothing stays
abbrev pub row_after_death : Option Object → Option Object
row_after_death None = None
row_after_death (Some o) = if is_out_state o.state then None else Some (record o { is_live = false; is_living = false })

-- a version with another state
abbrev pub version_with_state : Option Version → ProgramState → Option Version
version_with_state None s = None
version_with_state (Some v) s = Some (record v { state = s })

-- the row of an object, and of a version, with another moment of its latest entry
abbrev pub object_aged : ℕ → Option Object → Option Object
object_aged time None = None
object_aged time (Some o) = Some (record o { latest = time })

abbrev pub version_aged : ℕ → Option Version → Option Version
version_aged time None = None
version_aged time (Some v) = Some (record v { latest = time })

-- the row of an object that is living, or no longer so
abbrev pub object_animated : Bool → Option Object → Option Object
object_animated is_living None = None
object_animated is_living (Some o) = Some (record o { is_living = is_living })
