-- What bringing something back answers, and what it leaves.
use Rattle.std.specs.Prelude.{◌≡◌, ◌≢◌, ◌∷◌, ℕ, List, length, Bool, true, false, Option, Some, None, Result, Ok, Err, ⊤, slice_set}
use Rattle.sha2.specs.Sha256.{sha256}
use Rattle.lp_values.specs.declared.id.ObjId.{ObjId}
use Rattle.lp_values.specs.declared.id.ProgId.{ProgId}
use Rattle.lp_values.specs.declared.value.Value.{Value}
use Rattle.lp_image.specs.Image.{IsRecord, image}
use Rattle.lp_code.specs.declared.program.RawProgram.{RawProgram}
use Rattle.lp_encoding.specs.Programs.{IsEncoding}
use Rattle.lp_swapfile.specs.Device.{Bytes, FailedAt, Gave, IsTold, Last}
use Rattle.lp_swapfile.specs.Room.{AreTaken, IsTaken, Room, after_give_back}
use Rattle.lp_swapfile.specs.declared.extent.Extent.{Extent}
use Rattle.lp_swapper.specs.Swap.{extent_of}
use Rattle.lp_swapper.specs.declared.ticket.Ticket.{Ticket}
use Rattle.lp_world.specs.Rows.{row_at, row_with_state, version_with_state}
use Rattle.lp_world.specs.declared.live.Live.{Live}
use Rattle.lp_world.specs.declared.objects.ObjectState.TheVariants as objects_of
use Rattle.lp_world.specs.declared.versions.ProgramState.TheVariants as programs_of
use Rattle.lp_residence.specs.Owners.{program_image, record_of, with_room}
use Rattle.lp_residence.specs.declared.answers.EnterFault.{EnterFault}
use Rattle.lp_residence.specs.declared.answers.EnterFault.TheVariants.{NoMemory, Swap}
use Rattle.lp_residence.specs.declared.answers.SwapCause.TheVariants.{Changed, Read}
use Rattle.lp_residence.specs.declared.owner.Owner.{Owner}
use Rattle.lp_residence.specs.declared.owner.Owner.TheVariants as owners

-- Causes

-- the answer is that the read failed
abbrev pub is_read_fault : {A : Type 0} → Result A EnterFault → Bool
is_read_fault (Ok x) = false
is_read_fault (Err (Swap Read)) = true
is_read_fault (Err (Swap (Changed who found))) = false
is_read_fault (Err NoMemory) = false

-- Other bytes were found than went out for a ticket: as many, of another digest, by the latest read where the device tells.
pub record IsChange (who owner : Owner) (t : Ticket) (told : Option Bytes) (last : Last) (found : List ℕ) : Type 0 where
  pub owner_is : owner ≡ who
  pub len : length found ≡ t.len
  pub digest : sha256 found ≢ t.digest
  pub read : IsTold told → last ≡ Gave t.place found

-- What the fault of a read for a ticket says: a failed read of its place and length, or a change.
abbrev pub IsCaused : Owner → Ticket → Option Bytes → Last → EnterFault → Type 0
IsCaused who t told last (Swap Read) = IsTold told → last ≡ FailedAt t.place t.len
IsCaused who t told last (Swap (Changed owner found)) = IsChange who owner t told last found
IsCaused who t told last NoMemory = ⊤

-- a fault comes only where something was out
abbrev pub IsCausedBy : Owner → Option Ticket → Option Bytes → Last → EnterFault → Type 0
IsCausedBy who None told last e = ⊥
IsCausedBy who (Some t) told last e = IsCaused who t told last e

-- the answer is not that bytes changed
abbrev pub IsHonestFault : EnterFault → Type 0
IsHonestFault (Swap Read) = ⊤
IsHonestFault (Swap (Changed who found)) = ⊥
IsHonestFault NoMemory = ⊤

abbrev pub IsHonest : {A : Type 0} → Result A EnterFault → Type 0
IsHonest (Ok x) = ⊤
IsHonest (Err e) = IsHonestFault e

-- What comes in

-- the room after that of a ticket was given back, where there is one
abbrev pub room_back : Option Ticket → Room → Room
room_back None r = r
room_back (Some t) r = after_give_back (extent_of t) r

-- the state in which an object is in memory that was out for a ticket
abbrev pub object_back : Live → ObjId → List Value → Ticket → Live
object_back l o vs t = with_room (record l { objects = slice_set l.objects o.0 (row_with_state (row_at l.objects o.0) (objects_of.Resident vs)) }) (room_back (Some t) l.swapper)

-- and a version
abbrev pub version_back : Live → ProgId → RawProgram → Ticket → Live
version_back l p raw t = with_room (record l { versions = slice_set l.versions p.0 (version_with_state (row_at l.versions p.0) (programs_of.Resident raw)) }) (room_back (Some t) l.swapper)

-- the extents that stay taken where the room of a ticket is given back
abbrev pub AreTakenWithout : Option Ticket → Room → Room → Type 0
AreTakenWithout None old new = new ≡ old
AreTakenWithout (Some t) old new = (es : List Extent) → AreTaken (extent_of t ∷ es) old → AreTaken es new

-- the room of a ticket can be given back
abbrev pub CanGiveBack : Option Ticket → Room → Type 0
CanGiveBack None r = ⊤
CanGiveBack (Some t) r = IsTaken (extent_of t) r

abbrev pub IsBack : Owner → Live → Live → Ticket → Type 0
IsBack (owners.Object o) old new t = (vs : List Value) × (new ≡ object_back old o vs t)
IsBack (owners.Program p) old new t = (raw : RawProgram) × (new ≡ version_back old p raw t)

-- Nothing changed where it was in memory; else it is back, and its room is free.
abbrev pub IsEntered : Owner → Live → Live → Option Ticket → Type 0
IsEntered who old new None = new ≡ old
IsEntered who old new (Some t) = IsBack who old new t

-- What bytes say

-- these values, where the bytes are the image of an object's record
abbrev pub AreValuesOf : List ℕ → List Value → Type 0
AreValuesOf bytes vs = (o : ObjId) (us : List Value) → IsRecord (record_of o us) → bytes ≡ image (record_of o us) → vs ≡ us

-- this program, where the bytes are the image of one
abbrev pub IsProgramOf : List ℕ → RawProgram → Type 0
IsProgramOf bytes p = (q : RawProgram) (encoding : List ℕ) → IsEncoding q encoding → bytes ≡ program_image encoding → p ≡ q
