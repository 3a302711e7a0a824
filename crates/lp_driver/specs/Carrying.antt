-- A call of the driver is carried out.
use Rattle.std.specs.Prelude.{◌≡◌, [], List, Option}
use Rattle.lp_values.specs.declared.id.ObjId.{ObjId}
use Rattle.lp_values.specs.declared.value.Value.{Value}
use Rattle.lp_code.specs.declared.program.RawProgram.{RawProgram}
use Rattle.lp_events.specs.declared.out.Out.{Out}
use Rattle.lp_swapfile.specs.Device.{Bytes}
use Rattle.lp_language.specs.Course.{Ask, Asked, Outcome, State, after}
use Rattle.lp_meaning.specs.Askers.{driver, question}
use Rattle.lp_meaning.specs.Closing.{Has}
use Rattle.lp_meaning.specs.EventTurns.{begun}
use Rattle.lp_meaning.specs.FrontEnd.{FrontEnd}
use Rattle.lp_front_end.specs.FrontEnds.{IsFrontEnd}
use Rattle.lp_world.specs.declared.live.Live.{Live}
use Rattle.lp_asking.specs.declared.asker.Asker.{Asker}
use Rattle.lp_turn.specs.Calls.{IsEndOf, asked_of}
use Rattle.lp_turn.specs.Resting.{Rests}
use Rattle.lp_turn.specs.declared.job.Call.{Call}
use Rattle.lp_turn.specs.declared.job.CallEnd.{CallEnd}

-- between calls of the driver the live state stands for one of the meaning's
pub record RestsForOne (told : Option Bytes) (live : Live) : Type 0 where
  pub programs : List RawProgram
  pub before : List Out
  pub state : State
  pub rests : Rests told programs before live state

-- Who asks is the driver, for a `this_player()` and a `this_interactive()`: there are no commands, loads and callers.
pub record IsDriver (o i : Option ObjId) (asker : Asker) : Type 0 where
  pub player : asker.turn.player ≡ o
  pub commands : asker.turn.commands.items ≡ []
  pub interactive : asker.interactive ≡ i
  pub loads : asker.loads.items ≡ []
  pub callers : asker.callers.items ≡ []
  pub depth : asker.depth ≡ 0

-- what the driver asks in a state
abbrev pub asked_in : Asked → Option ObjId → Option ObjId → List Value → State → Ask
asked_in what player interactive xs s = question what xs (driver interactive) (begun player s)

-- A call ended as one of its question's outcomes says, and the live state stands for the state behind it.
pub record Carried (front : FrontEnd) (what : Asked) (player interactive : Option ObjId) (xs : List Value) (told : Option Bytes) (before : List Out) (live : Live) (end : CallEnd) (s : State) : Type 0 where
  pub outcome : Outcome
  pub has : Has front (asked_in what player interactive xs s) outcome
  pub programs : List RawProgram
  pub rests : Rests told programs before live (after (begun player s) outcome)
  pub ended : IsEndOf programs outcome.world end outcome.answer

-- IT IS CARRIED OUT as it means: from each state for which the live state stands.
abbrev pub CarriesOut : Asked → Option ObjId → Option ObjId → List Value → Option Bytes → Live → Option Bytes → Live → CallEnd → Type 0
CarriesOut what player interactive xs told0 live0 told1 live1 end =
    (front : FrontEnd) (real : IsFrontEnd front) (programs : List RawProgram) (before : List Out) (s : State) → Rests told0 programs before live0 s → Carried front what player interactive xs told1 before live1 end s

abbrev pub Carries : Call → Option Bytes → Live → Option Bytes → Live → CallEnd → Type 0
Carries call told0 live0 told1 live1 end = CarriesOut (asked_of call.asked) call.player call.interactive call.arguments.items told0 live0 told1 live1 end
