-- How turns begin, go on, and take the ends of their calls.
use Rattle.std.specs.Prelude.{◌≡◌, ⊤, List, All, Option}
use Rattle.lp_code.specs.declared.program.RawProgram.{RawProgram}
use Rattle.lp_cells.specs.Cells.{IsThere, Store}
use Rattle.lp_events.specs.declared.out.Out.{Out}
use Rattle.lp_swapfile.specs.Device.{Bytes}
use Rattle.lp_language.specs.Course.{Answer, Asks, Course, State}
use Rattle.lp_meaning.specs.EventTurns.{done}
use Rattle.lp_world.specs.declared.live.Live.{Live}
use Rattle.lp_turn.specs.Calls.{IsAskedThere, IsEndOf, question_of, state_behind}
use Rattle.lp_turn.specs.Resting.{Rests}
use Rattle.lp_turn.specs.Turns.{going_course, waiting_course}
use Rattle.lp_turn.specs.declared.job.Call.{Call}
use Rattle.lp_turn.specs.declared.job.CallEnd.{CallEnd}
use Rattle.lp_turn.specs.declared.job.Going.{Going}
use Rattle.lp_turn.specs.declared.job.Step.{Step}
use Rattle.lp_turn.specs.declared.job.Step.TheVariants as steps
use Rattle.lp_turn.specs.declared.job.Waiting.{Waiting}

-- It asks for a call of the driver, in a state for which the live state stands; and what is left behind the answer is what it waits for.
pub record HasAsked (call : Call) (waiting : Waiting) (told : Option Bytes) (programs : List RawProgram) (before : List Out) (live : Live) (c : Course (Unit {0})) : Type 0 where
  pub state : State
  pub rests : Rests told programs before live state
  pub there : IsAskedThere live.objects call.asked
  pub course : c ≡ Asks (question_of call state) (λ o. waiting_course waiting o.answer (state_behind call state o))

-- It ends, in a state for which the live state stands.
pub record HasEnded (told : Option Bytes) (programs : List RawProgram) (before : List Out) (live : Live) (c : Course (Unit {0})) : Type 0 where
  pub state : State
  pub rests : Rests told programs before live state
  pub course : c ≡ done state

abbrev pub LeadsTo : Step → Option Bytes → List RawProgram → List Out → Live → Course (Unit {0}) → Type 0
LeadsTo (steps.Asks call waiting) told programs before live c = HasAsked call waiting told programs before live c
LeadsTo steps.Ends told programs before live c = HasEnded told programs before live c

-- It goes on so, in a state for which the live state stands.
pub record HasGone (going : Going) (told : Option Bytes) (programs : List RawProgram) (before : List Out) (live : Live) (c : Course (Unit {0})) : Type 0 where
  pub state : State
  pub rests : Rests told programs before live state
  pub course : c ≡ going_course going state

-- A TURN BEGINS as it means: from each state for which the live state stands it goes on so; or does at once what it does first; or
-- is over at once.
abbrev pub BeginsAs : (State → Course (Unit {0})) → Live → Live → Going → Type 0
BeginsAs turn live0 live1 going =
    (told : Option Bytes) (programs : List RawProgram) (before : List Out) (s : State) → Rests told programs before live0 s → HasGone going told programs before live1 (turn s)

abbrev pub BeginsWith : (State → Course (Unit {0})) → Live → Live → Step → Type 0
BeginsWith turn live0 live1 r =
    (told : Option Bytes) (programs : List RawProgram) (before : List Out) (s : State) → Rests told programs before live0 s → LeadsTo r told programs before live1 (turn s)

abbrev pub IsWhole : (State → Course (Unit {0})) → Live → Live → Type 0
IsWhole turn live0 live1 = BeginsWith turn live0 live1 steps.Ends

-- A TURN GOES ON as it means.
abbrev pub Goes : Step → Going → Live → Live → Type 0
Goes r going live0 live1 = BeginsWith (going_course going) live0 live1 r

-- A TURN TAKES THE END OF ITS CALL as it means: from each state behind an answer that this end is, for which the live state stands.
abbrev pub Takes : Waiting → CallEnd → Option Bytes → Live → Option Bytes → Live → Going → Type 0
Takes waiting end told0 live0 told1 live1 going =
    (programs : List RawProgram) (before : List Out) (a : Answer) (s : State) → Rests told0 programs before live0 s → IsEndOf programs s.world end a
    → HasGone going told1 programs before live1 (waiting_course waiting a s)

-- the values that a turn hands on are there
abbrev pub AreStepValuesThere : Store → Step → Type 0
AreStepValuesThere cells (steps.Asks call waiting) = All (IsThere cells) call.arguments.items
AreStepValuesThere cells steps.Ends = ⊤
