-- What is in memory and what is out, by its owner: an object or a version of a program.
use Rattle.std.specs.Prelude.{◌≡◌, ℕ, List, [], ◌++◌, Option, Some, None, Bool, is_some, codes, slice_set}
use Rattle.lp_values.specs.declared.id.CellId.{CellId}
use Rattle.lp_values.specs.declared.id.ObjId.{ObjId}
use Rattle.lp_values.specs.declared.value.Value.{Value}
use Rattle.lp_image.specs.Image.{IsRecord, image}
use Rattle.lp_image.specs.declared.record.Record.{Record}
use Rattle.lp_swapfile.specs.Room.{Room}
use Rattle.lp_swapper.specs.declared.ticket.Ticket.{Ticket}
use Rattle.lp_code.specs.declared.program.RawProgram.{RawProgram}
use Rattle.lp_encoding.specs.Programs.{IsEncoding}
use Rattle.lp_world.specs.Records.{record_for, shared_for}
use Rattle.lp_world.specs.Rows.{live_in, object_ticket, program_ticket, row_at, state_in, variables_at, version_state, version_with_state}
use Rattle.lp_world.specs.declared.live.Live.{Live}
use Rattle.lp_world.specs.declared.objects.Object.{Object}
use Rattle.lp_world.specs.declared.objects.ObjectState.{ObjectState}
use Rattle.lp_world.specs.declared.objects.ObjectState.TheVariants as objects_of
use Rattle.lp_world.specs.declared.versions.ProgramState.{ProgramState}
use Rattle.lp_world.specs.declared.versions.ProgramState.TheVariants as programs_of
use Rattle.lp_residence.specs.declared.owner.Owner.{Owner}
use Rattle.lp_residence.specs.declared.owner.Owner.TheVariants as owners

-- The record of an object: no cell goes into it, so it names each array and mapping that a variable names.
abbrev pub record_of : ObjId → List Value → Record
record_of o vs = record_for o vs [] []

-- the cells that it names, each as often as it names it
abbrev pub cells_named : List Value → List CellId
cells_named vs = shared_for vs [] []

-- the image of a program: a mark and its encoding
abbrev pub program_image : List ℕ → List ℕ
program_image encoding = codes "LPP1" ++ encoding

-- the program of a version that is in memory
abbrev pub program_of : Option ProgramState → Option RawProgram
program_of None = None
program_of (Some (programs_of.Resident p)) = Some p
program_of (Some (programs_of.Swapped t)) = None

-- An object or a version is there: the object is live, the state has the version.
abbrev pub is_there : Live → Owner → Bool
is_there l (owners.Object o) = live_in l.objects o
is_there l (owners.Program p) = is_some (row_at l.versions p.0)

-- the ticket of what is out
abbrev pub ticket_of_state : Option ObjectState → Option Ticket
ticket_of_state None = None
ticket_of_state (Some s) = object_ticket s

abbrev pub ticket_of_version : Option ProgramState → Option Ticket
ticket_of_version None = None
ticket_of_version (Some s) = program_ticket s

abbrev pub ticket_at : Live → Owner → Option Ticket
ticket_at l (owners.Object o) = ticket_of_state (state_in (row_at l.objects o.0))
ticket_at l (owners.Program p) = ticket_of_version (version_state (row_at l.versions p.0))

-- The image of what is in memory: the bytes that go out.
pub record IsObjectImage (l : Live) (o : ObjId) (bytes : List ℕ) : Type 0 where
  pub values : List Value
  pub here : variables_at l.objects o ≡ Some values
  pub fits : IsRecord (record_of o values)
  pub spelled : bytes ≡ image (record_of o values)

pub record IsProgramImage (program : RawProgram) (bytes : List ℕ) : Type 0 where
  pub encoding : List ℕ
  pub encodes : IsEncoding program encoding
  pub spelled : bytes ≡ program_image encoding

pub record IsVersionImage (state : Option ProgramState) (bytes : List ℕ) : Type 0 where
  pub program : RawProgram
  pub here : program_of state ≡ Some program
  pub image_is : IsProgramImage program bytes

abbrev pub IsImage : Live → Owner → List ℕ → Type 0
IsImage l (owners.Object o) bytes = IsObjectImage l o bytes
IsImage l (owners.Program p) bytes = IsVersionImage (version_state (row_at l.versions p.0)) bytes

-- what an object in memory becomes when it goes out for a ticket
abbrev pub out_state : Option (List Value) → Ticket → ObjectState
out_state None t = objects_of.Resident []
out_state (Some vs) t = objects_of.Swapped t (cells_named vs) []

abbrev pub out_row : Option Object → Option (List Value) → Ticket → Option Object
out_row None vs t = None
out_row (Some o) vs t = Some (record o { state = out_state vs t })

-- the state in which something is out for a ticket that was in memory
abbrev pub gone : Live → Owner → Ticket → Live
gone l (owners.Object o) t = record l { objects = slice_set l.objects o.0 (out_row (row_at l.objects o.0) (variables_at l.objects o) t) }
gone l (owners.Program p) t = record l { versions = slice_set l.versions p.0 (version_with_state (row_at l.versions p.0) (programs_of.Swapped t)) }

-- the state with another room
abbrev pub with_room : Live → Room → Live
with_room l r = record l { swapper = r }
