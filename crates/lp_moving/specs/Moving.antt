-- Moves on the live state.
use Rattle.std.specs.Prelude.{◌≡◌, ⊤, List, [], ◌∷◌, ◌++◌, Bool, false, not, ◌&&◌, Option, Some, None, filter, map}
use Rattle.lp_values.specs.declared.id.ObjId.{ObjId}
use Rattle.lp_code.specs.declared.program.RawProgram.{RawProgram}
use Rattle.lp_language.specs.World.{World}
use Rattle.lp_meaning.specs.MovesAndCommands.{moved_world}
use Rattle.lp_places.specs.Places.{Init, MoveNo, IsShadow, WouldContainItself, inits_between, inits_of_move, is_at, is_object, may_move, moved}
use Rattle.lp_places.specs.declared.fault.PlaceFault.{PlaceFault}
use Rattle.lp_places.specs.declared.fault.PlaceFault.TheVariants as places
use Rattle.lp_swapfile.specs.Device.{Bytes}
use Rattle.lp_world.specs.Rows.{live_in, row_at}
use Rattle.lp_world.specs.Stands.{Stands}
use Rattle.lp_world.specs.declared.live.Live.{Live}
use Rattle.lp_world.specs.declared.objects.Object.{Object}
use Rattle.lp_moving.specs.declared.fault.MoveFault.{MoveFault}
use Rattle.lp_moving.specs.declared.fault.MoveFault.TheVariants as fault
use Rattle.lp_moving.specs.declared.visits.InitCall.{InitCall}

-- a call of `init`, as the meaning has it
abbrev pub init_of : InitCall → Init
init_of i = record { of = i.of; player = i.player }

-- the objects but an item
abbrev pub others_in : ObjId → List ObjId → List ObjId
others_in item os = filter (λ o. not (is_object o item)) os

-- the calls of `init` where an item comes among some objects of its destination
abbrev pub calls_among : ObjId → ObjId → List ObjId → List Init
calls_among item dest os =
    record { of = dest; player = item } ∷ inits_between item (others_in item os) ++ record { of = item; player = dest } ∷ []

-- whether the object of a row is living
abbrev pub is_living_row : Option Object → Bool
is_living_row None = false
is_living_row (Some o) = o.is_living

-- whether a call of `init` is made, where the item is at a place, by the rows of the objects
abbrev pub is_made : Option ObjId → List (Option Object) → ObjId → ObjId → ObjId → ObjId → Bool
is_made place objects item dest of player =
    is_at place dest && live_in objects item && live_in objects dest && live_in objects of && live_in objects player && is_living_row (row_at objects player.0)

-- why an object is not moved, as the places tell it
abbrev pub fault_of : PlaceFault → MoveFault
fault_of places.IsShadow = fault.IsShadow
fault_of places.WouldContainItself = fault.WouldContainItself
fault_of places.NoMemory = fault.NoMemory

-- A move was refused for the reason that there is. Want of memory says nothing of it.
abbrev pub IsRefused : MoveFault → Option MoveNo → Type 0
IsRefused fault.IsShadow r = r ≡ Some IsShadow
IsRefused fault.WouldContainItself r = r ≡ Some WouldContainItself
IsRefused fault.NoMemory r = ⊤

-- An item was moved, as it might be: the state stands for the world after the move, and the calls are those that follow it.
pub record IsMoved (told : Option Bytes) (programs : List RawProgram) (w : World) (item dest : ObjId) (live : Live) (calls : List InitCall) : Type 0 where
  pub may : may_move w.places w.shadows item dest ≡ None
  pub stands : Stands told programs live (moved_world w item dest)
  pub follow : map init_of calls ≡ inits_of_move (moved w.places item dest) item dest
