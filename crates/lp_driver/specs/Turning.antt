-- Turns go on, call by call, to their ends.
use Rattle.std.specs.Prelude.{◌≡◌, ⊤, ℕ, ◌≤◌, ◌^◌, List, None, Option}
use Rattle.std.specs.Str.{chars}
use Rattle.lp_code.specs.declared.program.RawProgram.{RawProgram}
use Rattle.lp_events.specs.declared.event.Event.{Event}
use Rattle.lp_events.specs.declared.event.Event.TheVariants as events
use Rattle.lp_events.specs.declared.out.Out.{Out}
use Rattle.lp_swapfile.specs.Device.{Bytes}
use Rattle.lp_language.specs.Course.{Asks, Course, End, Gives, State}
use Rattle.lp_meaning.specs.Closing.{Ends}
use Rattle.lp_meaning.specs.FrontEnd.{FrontEnd}
use Rattle.lp_meaning.specs.Ticks.{at_moment, calls_out}
use Rattle.lp_objects.specs.Objects.{Named, object_named}
use Rattle.lp_objects.specs.Stands as names
use Rattle.lp_objects.specs.declared.objects.Objects.{Objects}
use Rattle.lp_timers.specs.Timers.{due_at}
use Rattle.lp_front_end.specs.FrontEnds.{IsFrontEnd}
use Rattle.lp_world.specs.declared.live.Live.{Live}
use Rattle.lp_world.specs.declared.objects.Object.{Object}
use Rattle.lp_turn.specs.Calls.{IsAskedThere, question_of, state_behind}
use Rattle.lp_turn.specs.Resting.{Rests}
use Rattle.lp_turn.specs.Turns.{going_course, waiting_course}
use Rattle.lp_turn.specs.declared.job.Call.{Call}
use Rattle.lp_turn.specs.declared.job.Going.{Going}
use Rattle.lp_turn.specs.declared.job.Step.{Step}
use Rattle.lp_turn.specs.declared.job.Step.TheVariants as steps
use Rattle.lp_turn.specs.declared.job.Waiting.{Waiting}

-- the course of a turn that asks, and waits for the end of the call
abbrev pub asking_course : Call → Waiting → State → Course (Unit {0})
asking_course call waiting s = Asks (question_of call s) (λ o. waiting_course waiting o.answer (state_behind call s o))

-- A turn goes on so, in a state for which the live state stands: what is left of it ends as the whole does.
pub record TurnLeft (front : FrontEnd) (told : Option Bytes) (before : List Out) (live : Live) (going : Going) (course : Course (Unit {0})) : Type 0 where
  pub programs : List RawProgram
  pub state : State
  pub rests : Rests told programs before live state
  pub back : (e : End (Unit {0})) → Ends front (going_course going state) e → Ends front course e

-- It asks, likewise.
pub record TurnAsksOn (front : FrontEnd) (told : Option Bytes) (before : List Out) (live : Live) (call : Call) (waiting : Waiting) (course : Course (Unit {0})) : Type 0 where
  pub programs : List RawProgram
  pub state : State
  pub rests : Rests told programs before live state
  pub back : (e : End (Unit {0})) → Ends front (asking_course call waiting state) e → Ends front course e

-- It has ended, in a state for which the live state stands.
pub record TurnEnded (front : FrontEnd) (told : Option Bytes) (before : List Out) (live : Live) (course : Course (Unit {0})) : Type 0 where
  pub programs : List RawProgram
  pub state : State
  pub rests : Rests told programs before live state
  pub ends : Ends front course (Gives tt state)

abbrev pub StepStands : FrontEnd → Option Bytes → List Out → Live → Step → Course (Unit {0}) → Type 0
StepStands front told before live (steps.Asks call waiting) course = TurnAsksOn front told before live call waiting course
StepStands front told before live steps.Ends course = TurnEnded front told before live course

-- so from each state for which the live state stood
abbrev pub TurnGoes : (State → Course (Unit {0})) → Option Bytes → Live → Option Bytes → Live → Going → Type 0
TurnGoes turn told0 live0 told1 live1 going =
    (front : FrontEnd) (real : IsFrontEnd front) (programs : List RawProgram) (before : List Out) (s : State) → Rests told0 programs before live0 s → TurnLeft front told1 before live1 going (turn s)

abbrev pub TurnSteps : (State → Course (Unit {0})) → Option Bytes → Live → Option Bytes → Live → Step → Type 0
TurnSteps turn told0 live0 told1 live1 r =
    (front : FrontEnd) (real : IsFrontEnd front) (programs : List RawProgram) (before : List Out) (s : State) → Rests told0 programs before live0 s → StepStands front told1 before live1 r (turn s)

-- Whatever a step stood for, a later one stands for.
abbrev pub TurnContinues : Step → Option Bytes → Live → Option Bytes → Live → Step → Type 0
TurnContinues step told0 live0 told1 live1 r =
    (front : FrontEnd) (real : IsFrontEnd front) (before : List Out) (c : Course (Unit {0})) → StepStands front told0 before live0 step c → StepStands front told1 before live1 r c

-- THE TURN IS CARRIED OUT as it means.
abbrev pub TurnEnds : (State → Course (Unit {0})) → Option Bytes → Live → Option Bytes → Live → Type 0
TurnEnds turn told0 live0 told1 live1 =
    (front : FrontEnd) (real : IsFrontEnd front) (programs : List RawProgram) (before : List Out) (s : State) → Rests told0 programs before live0 s → TurnEnded front told1 before live1 (turn s)

-- The first step of a tick: the clock is set, and the call-outs that are due are called, as the written meaning lists them.
abbrev pub call_outs_due : ℕ → State → Course (Unit {0})
call_outs_due t s = calls_out (due_at t s.world.call_outs) (record s { world = at_moment s.world t })

-- an event may come: the moment of a tick is one that a script may have
abbrev pub MayCome : Event → Type 0
MayCome (events.Connect k) = ⊤
MayCome (events.Line k bytes) = ⊤
MayCome (events.Gone k) = ⊤
MayCome (events.Tick t) = t ≤ 10 ^ 12
MayCome (events.Reload path bytes) = ⊤
MayCome (events.Swap name) = ⊤

-- it is a swap item
abbrev pub IsSwap : Event → Type 0
IsSwap (events.Connect k) = ⊥
IsSwap (events.Line k bytes) = ⊥
IsSwap (events.Gone k) = ⊥
IsSwap (events.Tick t) = ⊥
IsSwap (events.Reload path bytes) = ⊥
IsSwap (events.Swap name) = ⊤

-- it is a swap item of a name that no live object has
abbrev pub NamesNobody : Event → Objects → Type 0
NamesNobody (events.Connect k) table = ⊥
NamesNobody (events.Line k bytes) table = ⊥
NamesNobody (events.Gone k) table = ⊥
NamesNobody (events.Tick t) table = ⊥
NamesNobody (events.Reload path bytes) table = ⊥
NamesNobody (events.Swap name) table = (objects : List Named) × names.Stands table objects × (object_named objects (chars name) ≡ None)

-- what a step asks for is there
abbrev pub IsStepAskedThere : List (Option Object) → Step → Type 0
IsStepAskedThere objects (steps.Asks call waiting) = IsAskedThere objects call.asked
IsStepAskedThere objects steps.Ends = ⊤
