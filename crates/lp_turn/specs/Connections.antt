-- What turns change of connections.
use Rattle.std.specs.Prelude.{◌≡◌, ◌++◌, ◌∷◌, [], ℕ, List, Option, Some, None, filter, nat_eq, not, if◌then◌else◌}
use Rattle.lp_values.specs.declared.id.ObjId.{ObjId}
use Rattle.lp_values.specs.declared.value.Value.{Value}
use Rattle.lp_code.specs.declared.program.RawProgram.{RawProgram}
use Rattle.lp_swapfile.specs.Device.{Bytes}
use Rattle.lp_language.specs.Course.{Course, State}
use Rattle.lp_language.specs.World.{World, is_live}
use Rattle.lp_meaning.specs.EventTurns.{closed, done, free_object}
use Rattle.lp_meaning.specs.WorldSteps.{is_connected}
use Rattle.lp_world.specs.Connecting.{Connecting}
use Rattle.lp_world.specs.Stands.{Stands}
use Rattle.lp_world.specs.declared.live.Live.{Live}

-- A number was connected, and was not gone since.
abbrev pub numbered_in : ℕ → Connecting → Connecting
numbered_in k c = record { opened = c.opened; highest = k; present = c.present ++ k ∷ []; waiting = c.waiting }

abbrev pub HasNumbered : ℕ → Live → Live → Type 0
HasNumbered k old new = new ≡ record old { connections = numbered_in k old.connections }

-- a number is gone
abbrev pub without_number : ℕ → Connecting → Connecting
without_number k c = record { opened = c.opened; highest = c.highest; present = filter (λ n. not (nat_eq n k)) c.present; waiting = c.waiting }

abbrev pub HasForgotten : ℕ → Live → Live → Type 0
HasForgotten k old new = new ≡ record old { connections = without_number k old.connections }

-- An object got a connection.
abbrev pub given_in : ℕ → ObjId → Connecting → Connecting
given_in k o c = record { opened = c.opened ++ record { number = k; object = o } ∷ []; highest = c.highest; present = c.present; waiting = c.waiting }

abbrev pub HasGiven : ℕ → ObjId → Live → Live → Type 0
HasGiven k o old new = new ≡ record old { connections = given_in k o old.connections }

-- A connection is open no longer, and nothing waits for its line.
abbrev pub closed_in : ℕ → Connecting → Connecting
closed_in k c =
    record { opened = filter (λ x. not (nat_eq x.number k)) c.opened; highest = c.highest; present = c.present; waiting = filter (λ x. not (nat_eq x.connection k)) c.waiting }

abbrev pub HasClosed : ℕ → Live → Live → Type 0
HasClosed k old new = new ≡ record old { connections = closed_in k old.connections }

-- nothing waits for a line any more
abbrev pub without_waiting : ℕ → Connecting → Connecting
without_waiting k c = record { opened = c.opened; highest = c.highest; present = c.present; waiting = filter (λ x. not (nat_eq x.connection k)) c.waiting }

abbrev pub HasTakenLine : ℕ → Live → Live → Type 0
HasTakenLine k old new = new ≡ record old { connections = without_waiting k old.connections }

-- the driver closes a connection, and the turn ends
abbrev pub closed_then_done : ℕ → State → Course (Unit {0})
closed_then_done k s = done (closed k s)

-- an object, where it is live and has no connection
abbrev pub free_in : World → ObjId → Option ObjId
free_in w o = if is_live w o then (if is_connected w o then None else Some o) else None

abbrev pub IsFreeOf : Live → ObjId → Option ObjId → Type 0
IsFreeOf live o r = (told : Option Bytes) (programs : List RawProgram) (w : World) → Stands told programs live w → r ≡ free_in w o

-- the one that a value is
abbrev pub IsFreeObject : Live → Value → Option ObjId → Type 0
IsFreeObject live v r = (told : Option Bytes) (programs : List RawProgram) (w : World) → Stands told programs live w → r ≡ free_object w v
