-- What goes out to a swap file, and what comes back.
use Rattle.std.specs.Prelude.{◌≡◌, ◌≢◌, ℕ, List, ◌∷◌, length, Bool, true, false, Option, None, Some, Result, Ok, Err, ⊤}
use Rattle.std.specs.declared.alloc.AllocError.{AllocError}
use Rattle.sha2.specs.Sha256.{sha256}
use Rattle.lp_swapfile.specs.Room.{Room, after_give_back, after_take, place_for, AreTaken, IsTaken}
use Rattle.lp_swapfile.specs.Device.{Bytes, Holds, HoldsWhereTold, IsTold, Last, Gave, FailedAt}
use Rattle.lp_swapfile.specs.declared.extent.Extent.{Extent}
use Rattle.lp_swapper.specs.declared.ticket.Ticket.{Ticket}
use Rattle.lp_swapper.specs.declared.swapper.OutAnswer.{OutAnswer}
use Rattle.lp_swapper.specs.declared.swapper.OutAnswer.TheVariants.{Out, KeptFault, KeptFull}
use Rattle.lp_swapper.specs.declared.swapper.BackFault.{BackFault}
use Rattle.lp_swapper.specs.declared.swapper.BackFault.TheVariants.{ReadFault, Changed, NoMemory}

-- the extent that a ticket stands for
abbrev pub extent_of : Ticket → Extent
extent_of t = record { place = t.place; len = t.len }

-- the device tells that these bytes were last written from a place on
abbrev pub IsHeld : Option Bytes → ℕ → List ℕ → Type 0
IsHeld None place bytes = ⊥
IsHeld (Some file) place bytes = Holds file place bytes

-- these bytes went out for the ticket, and stand at its place
pub record IsOutAt (told : Option Bytes) (t : Ticket) (bytes : List ℕ) : Type 0 where
  pub len : length bytes ≡ t.len
  pub digest : sha256 bytes ≡ t.digest
  pub held : IsHeld told t.place bytes

-- what a ticket says of the bytes that went out for it: the room that they took, how many they are, and their digest
pub record IsTicketOf (bytes : List ℕ) (room : Room) (t : Ticket) : Type 0 where
  pub place : t.place ≡ place_for (length bytes) room
  pub len : t.len ≡ length bytes
  pub digest : t.digest ≡ sha256 bytes

-- the room after bytes went out, or were kept: a write that failed took room, and gave it back
abbrev pub IsRoomAfterOut : List ℕ → Room → Room → Result OutAnswer AllocError → Type 0
IsRoomAfterOut bytes old new (Ok (Out t)) = new ≡ after_take (length bytes) old
IsRoomAfterOut bytes old new (Ok KeptFault) = new ≡ after_give_back (record { place = place_for (length bytes) old; len = length bytes }) (after_take (length bytes) old)
IsRoomAfterOut bytes old new (Ok KeptFull) = new ≡ old
IsRoomAfterOut bytes old new (Err e) = new ≡ old

-- The extents that are taken once bytes went out: one more, which can be given back. Where they were kept the same are taken as before.
abbrev pub AreTicketsAfter : Room → Room → Result OutAnswer AllocError → Type 0
AreTicketsAfter old new (Ok (Out t)) = IsTaken (extent_of t) new × ((es : List Extent) → AreTaken es old → AreTaken (extent_of t ∷ es) new)
AreTicketsAfter old new (Ok KeptFault) = (es : List Extent) → AreTaken es old → AreTaken es new
AreTicketsAfter old new (Ok KeptFull) = (es : List Extent) → AreTaken es old → AreTaken es new
AreTicketsAfter old new (Err e) = (es : List Extent) → AreTaken es old → AreTaken es new

-- where bytes went out, their ticket is theirs, and they stand at its place where the device tells
abbrev pub IsOut : List ℕ → Room → Option Bytes → Result OutAnswer AllocError → Type 0
IsOut bytes room told (Ok (Out t)) = IsTicketOf bytes room t × HoldsWhereTold told t.place bytes
IsOut bytes room told (Ok KeptFault) = ⊤
IsOut bytes room told (Ok KeptFull) = ⊤
IsOut bytes room told (Err e) = ⊤

-- the answer is that a write failed
abbrev pub is_kept_fault : Result OutAnswer AllocError → Bool
is_kept_fault (Ok (Out t)) = false
is_kept_fault (Ok KeptFault) = true
is_kept_fault (Ok KeptFull) = false
is_kept_fault (Err e) = false

-- the answer is that there was no room
abbrev pub is_kept_full : Result OutAnswer AllocError → Bool
is_kept_full (Ok (Out t)) = false
is_kept_full (Ok KeptFault) = false
is_kept_full (Ok KeptFull) = true
is_kept_full (Err e) = false

-- What the read of a ticket's bytes answers: bytes of its length and digest, or what was found in place of them, which has another digest. The latest read, where the device tells, is that of the ticket's place and length.
abbrev pub IsBackAnswer : Ticket → Option Bytes → Last → Result (List ℕ) BackFault → Type 0
IsBackAnswer t told last (Ok bytes) = (length bytes ≡ t.len) × (sha256 bytes ≡ t.digest) × (IsTold told → last ≡ Gave t.place bytes)
IsBackAnswer t told last (Err ReadFault) = IsTold told → last ≡ FailedAt t.place t.len
IsBackAnswer t told last (Err (Changed found)) = (length found ≡ t.len) × (sha256 found ≢ t.digest) × (IsTold told → last ≡ Gave t.place found)
IsBackAnswer t told last (Err NoMemory) = ⊤

-- the answer is that the read failed
abbrev pub is_read_fault : Result (List ℕ) BackFault → Bool
is_read_fault (Ok bytes) = false
is_read_fault (Err ReadFault) = true
is_read_fault (Err (Changed found)) = false
is_read_fault (Err NoMemory) = false

-- what went out came back, if anything did
abbrev pub IsTrueAnswer : List ℕ → Result (List ℕ) BackFault → Type 0
IsTrueAnswer was (Ok bytes) = bytes ≡ was
IsTrueAnswer was (Err ReadFault) = ⊤
IsTrueAnswer was (Err (Changed found)) = ⊤
IsTrueAnswer was (Err NoMemory) = ⊤

-- the same, and nothing else was found
abbrev pub IsHonestAnswer : List ℕ → Result (List ℕ) BackFault → Type 0
IsHonestAnswer was (Ok bytes) = bytes ≡ was
IsHonestAnswer was (Err ReadFault) = ⊤
IsHonestAnswer was (Err (Changed found)) = ⊥
IsHonestAnswer was (Err NoMemory) = ⊤
