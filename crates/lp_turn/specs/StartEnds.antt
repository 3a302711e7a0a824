-- Where the first load of the master ended.
use Rattle.std.specs.Prelude.{◌≡◌, List, Bool, true, false, Option, Some, None, map}
use Rattle.lp_code.specs.declared.program.RawProgram.{RawProgram}
use Rattle.lp_events.specs.declared.out.Out.{Out}
use Rattle.lp_instr.specs.EfunList.{is_name}
use Rattle.lp_objects.specs.Objects.{Named}
use Rattle.lp_objects.specs.Stands as names
use Rattle.lp_objects.specs.declared.objects.Objects.{Objects}
use Rattle.lp_swapfile.specs.Device.{Bytes}
use Rattle.lp_tree.specs.declared.fault.Fault.{Fault}
use Rattle.lp_language.specs.Course.{Answer, State}
use Rattle.lp_language.specs.World.{World}
use Rattle.lp_meaning.specs.EventTurns.{aborted}
use Rattle.lp_meaning.specs.WorldSteps.{master_name, was_made}
use Rattle.lp_world.specs.Stands.{named_of}
use Rattle.lp_world.specs.declared.live.Live.{Live}
use Rattle.lp_turn.specs.Calls.{IsEndOf}
use Rattle.lp_turn.specs.Resting.{Rests}
use Rattle.lp_turn.specs.Starting.{AreAllKnown, StartGone}
use Rattle.lp_turn.specs.Starts.{start_waiting}
use Rattle.lp_turn.specs.declared.job.CallEnd.{CallEnd}
use Rattle.lp_turn.specs.declared.job.CallEnd.TheVariants as ends
use Rattle.lp_turn.specs.declared.start_job.StartGoing.{StartGoing}
use Rattle.lp_turn.specs.declared.start_job.StartWaiting.TheVariants as waitings

-- an object, where it is known, has the master's name
abbrev pub is_master_name : Option Named → Bool
is_master_name None = false
is_master_name (Some x) = is_name x.name master_name

-- An object of the master's name was made, live or not, in each world for which the names stand and whose objects are all known.
abbrev pub WasMade : Objects → Bool → Type 0
WasMade table r = (w : World) → names.Stands table (map named_of w.objects) → AreAllKnown table (map named_of w.objects) → r ≡ was_made w master_name

-- the faults for which there is no master
abbrev pub AreFaultsFor : CallEnd → List Fault → Type 0
AreFaultsFor (ends.Ended e) fs = fs ≡ aborted
AreFaultsFor (ends.Faulty gs) fs = fs ≡ gs.items

-- the first load ended, where an object of the master's name was made
abbrev pub TakesMade : CallEnd → Option Bytes → Live → Option Bytes → Live → StartGoing → Type 0
TakesMade end told0 live0 told1 live1 going =
    (programs : List RawProgram) (before : List Out) (a : Answer) (s : State) → Rests told0 programs before live0 s → IsEndOf programs s.world end a → was_made s.world master_name ≡ true
    → StartGone going told1 programs before live1 (start_waiting waitings.First a s)
