-- What putting something out answers, and what it leaves.
use Rattle.std.specs.Prelude.{◌≡◌, ℕ, List, length, Bool, true, false, Option, IsSome, Result, Ok, Err, ⊤}
use Rattle.std.specs.declared.alloc.AllocError.{AllocError}
use Rattle.lp_swapfile.specs.Device.{AreSameOutside, Bytes, HoldsWhereTold}
use Rattle.lp_swapfile.specs.Room.{AreTaken, Room, after_give_back, after_take, is_full, place_for}
use Rattle.lp_swapfile.specs.declared.extent.Extent.{Extent}
use Rattle.lp_swapper.specs.Swap.{IsTicketOf}
use Rattle.lp_swapper.specs.declared.ticket.Ticket.{Ticket}
use Rattle.lp_world.specs.declared.live.Live.{Live}
use Rattle.lp_residence.specs.declared.owner.Owner.{Owner}
use Rattle.lp_residence.specs.declared.answers.PutOut.{PutOut}
use Rattle.lp_residence.specs.declared.answers.PutOut.TheVariants as puts
use Rattle.lp_residence.specs.Owners.{IsImage, gone, is_there, ticket_at, with_room}

-- It was in memory, and is out: its image stands in the file, where the device tells, and only the ticket is left of it.
pub record WentOut (who : Owner) (old new : Live) (told : Option Bytes) : Type 0 where
  pub there : is_there old who ≡ true
  pub bytes : List ℕ
  pub image : IsImage old who bytes
  pub room : is_full (length bytes) old.swapper ≡ false
  pub ticket : Ticket
  pub is_for : IsTicketOf bytes old.swapper ticket
  pub held : HoldsWhereTold told ticket.place bytes
  pub after : new ≡ with_room (gone old who ticket) (after_take (length bytes) old.swapper)

-- It stays in memory, since the write failed: room for its image was taken, and given back.
pub record StayedForFault (who : Owner) (old new : Live) : Type 0 where
  pub there : is_there old who ≡ true
  pub bytes : List ℕ
  pub image : IsImage old who bytes
  pub room : is_full (length bytes) old.swapper ≡ false
  pub after : new ≡ with_room old (after_give_back (record { place = place_for (length bytes) old.swapper; len = length bytes }) (after_take (length bytes) old.swapper))

-- It stays in memory, since no hole fits its image, and the end would pass the limit.
pub record StayedForRoom (who : Owner) (old new : Live) : Type 0 where
  pub there : is_there old who ≡ true
  pub bytes : List ℕ
  pub image : IsImage old who bytes
  pub room : is_full (length bytes) old.swapper ≡ true
  pub after : new ≡ old

-- it was out already
pub record WasOut (who : Owner) (old new : Live) : Type 0 where
  pub there : is_there old who ≡ true
  pub out : IsSome (ticket_at old who)
  pub after : new ≡ old

abbrev pub IsPut : Owner → Live → Live → Option Bytes → Result PutOut AllocError → Type 0
IsPut who old new told (Ok puts.Out) = WentOut who old new told
IsPut who old new told (Ok puts.NotThere) = (is_there old who ≡ false) × (new ≡ old)
IsPut who old new told (Ok puts.Already) = WasOut who old new
IsPut who old new told (Ok puts.KeptFault) = StayedForFault who old new
IsPut who old new told (Ok puts.KeptFull) = StayedForRoom who old new
IsPut who old new told (Err e) = new ≡ old

-- the answer is that a write failed
abbrev pub is_kept_fault : Result PutOut AllocError → Bool
is_kept_fault (Ok puts.Out) = false
is_kept_fault (Ok puts.NotThere) = false
is_kept_fault (Ok puts.Already) = false
is_kept_fault (Ok puts.KeptFault) = true
is_kept_fault (Ok puts.KeptFull) = false
is_kept_fault (Err e) = false

-- the device was not touched: what was to go out was not there, or out already
abbrev pub is_quiet : Result PutOut AllocError → Bool
is_quiet (Ok puts.Out) = false
is_quiet (Ok puts.NotThere) = true
is_quiet (Ok puts.Already) = true
is_quiet (Ok puts.KeptFault) = false
is_quiet (Ok puts.KeptFull) = false
is_quiet (Err e) = false

-- At most what the next bytes would take changed in the file.
pub record IsWrittenFree (room : Room) (old new : Option Bytes) : Type 0 where
  pub len : ℕ
  pub others : AreSameOutside (place_for len room) len old new

-- What was kept leaves the same extents taken.
abbrev pub AreTakenStill : Result PutOut AllocError → Room → Room → Type 0
AreTakenStill (Ok puts.Out) old new = ⊤
AreTakenStill (Ok puts.NotThere) old new = ⊤
AreTakenStill (Ok puts.Already) old new = ⊤
AreTakenStill (Ok puts.KeptFault) old new = (es : List Extent) → AreTaken es old → AreTaken es new
AreTakenStill (Ok puts.KeptFull) old new = ⊤
AreTakenStill (Err e) old new = ⊤
