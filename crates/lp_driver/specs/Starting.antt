-- The start goes on, call by call, to its end.
use Rattle.std.specs.Prelude.{◌≡◌, ⊤, List, Option}
use Rattle.lp_code.specs.declared.program.RawProgram.{RawProgram}
use Rattle.lp_events.specs.declared.out.Out.{Out}
use Rattle.lp_swapfile.specs.Device.{Bytes}
use Rattle.lp_language.specs.Course.{Asks, Course, End, Gives, State}
use Rattle.lp_meaning.specs.Closing.{Ends}
use Rattle.lp_meaning.specs.EventTurns.{Begins, NoMaster, Start}
use Rattle.lp_meaning.specs.FrontEnd.{FrontEnd}
use Rattle.lp_front_end.specs.FrontEnds.{IsFrontEnd}
use Rattle.lp_world.specs.declared.live.Live.{Live}
use Rattle.lp_world.specs.declared.objects.Object.{Object}
use Rattle.lp_turn.specs.Calls.{IsAskedThere, question_of, state_behind}
use Rattle.lp_turn.specs.Resting.{Rests}
use Rattle.lp_turn.specs.Left.{stages_behind}
use Rattle.lp_turn.specs.Starts.{start_going, start_waiting}
use Rattle.lp_turn.specs.declared.job.Call.{Call}
use Rattle.lp_turn.specs.declared.start_job.StartGoing.{StartGoing}
use Rattle.lp_turn.specs.declared.start_job.StartStep.{StartStep}
use Rattle.lp_turn.specs.declared.start_job.StartStep.TheVariants as steps
use Rattle.lp_turn.specs.declared.start_job.StartWaiting.{StartWaiting}
use Rattle.lp_driver.specs.declared.starting.Started.{Started}
use Rattle.lp_driver.specs.declared.starting.Started.TheVariants as started

-- the course of the start that asks, and waits for the end of the call
abbrev pub asking_start : Call → StartWaiting → State → Course Start
asking_start call waiting s = Asks (question_of call s) (λ o. start_waiting waiting o.answer (state_behind call s o))

-- what it ended with
abbrev pub start_of : Started → Start
start_of started.Begins = Begins
start_of (started.NoMaster fs) = NoMaster fs.items

-- The start goes on so, in a state for which the live state stands: what is left of it ends as the whole does.
pub record StartLeft (front : FrontEnd) (told : Option Bytes) (before : List Out) (live : Live) (going : StartGoing) (course : Course Start) : Type 0 where
  pub programs : List RawProgram
  pub state : State
  pub rests : Rests told programs before live state
  pub back : (e : End Start) → Ends front (start_going going state) e → Ends front course e

-- It asks, likewise.
pub record StartAsksOn (front : FrontEnd) (told : Option Bytes) (before : List Out) (live : Live) (call : Call) (waiting : StartWaiting) (course : Course Start) : Type 0 where
  pub programs : List RawProgram
  pub state : State
  pub rests : Rests told programs before live state
  pub back : (e : End Start) → Ends front (asking_start call waiting state) e → Ends front course e

-- It has ended so, in a state for which the live state stands.
pub record StartEnded (front : FrontEnd) (told : Option Bytes) (before : List Out) (live : Live) (end : Start) (course : Course Start) : Type 0 where
  pub programs : List RawProgram
  pub state : State
  pub rests : Rests told programs before live state
  pub ends : Ends front course (Gives end state)

abbrev pub StepStands : FrontEnd → Option Bytes → List Out → Live → StartStep → Course Start → Type 0
StepStands front told before live (steps.Asks call waiting) course = StartAsksOn front told before live call waiting course
StepStands front told before live steps.Begins course = StartEnded front told before live Begins course
StepStands front told before live (steps.NoMaster fs) course = StartEnded front told before live (NoMaster fs.items) course

-- so from each state for which the live state stood
abbrev pub StartGoesOn : (State → Course Start) → Option Bytes → Live → Option Bytes → Live → StartGoing → Type 0
StartGoesOn course told0 live0 told1 live1 going =
    (front : FrontEnd) (real : IsFrontEnd front) (programs : List RawProgram) (before : List Out) (s : State) → Rests told0 programs before live0 s → StartLeft front told1 before live1 going (course s)

abbrev pub StartSteps : (State → Course Start) → Option Bytes → Live → Option Bytes → Live → StartStep → Type 0
StartSteps course told0 live0 told1 live1 r =
    (front : FrontEnd) (real : IsFrontEnd front) (programs : List RawProgram) (before : List Out) (s : State) → Rests told0 programs before live0 s → StepStands front told1 before live1 r (course s)

-- THE START IS CARRIED OUT as it means.
abbrev pub StartEnds : (State → Course Start) → Option Bytes → Live → Option Bytes → Live → Started → Type 0
StartEnds course told0 live0 told1 live1 end =
    (front : FrontEnd) (real : IsFrontEnd front) (programs : List RawProgram) (before : List Out) (s : State) → Rests told0 programs before live0 s → StartEnded front told1 before live1 (start_of end) (course s)

-- what a step asks for is there
abbrev pub IsStartAskedThere : List (Option Object) → StartStep → Type 0
IsStartAskedThere objects (steps.Asks call waiting) = IsAskedThere objects call.asked
IsStartAskedThere objects steps.Begins = ⊤
IsStartAskedThere objects (steps.NoMaster fs) = ⊤

-- it waits in its last stage, or has ended
abbrev pub IsLastStep : StartStep → Type 0
IsLastStep (steps.Asks call waiting) = stages_behind waiting ≡ 0
IsLastStep steps.Begins = ⊤
IsLastStep (steps.NoMaster fs) = ⊤

-- Whatever a step stood for, a later one stands for; or the start has ended as that does.
abbrev pub StartContinues : StartStep → Option Bytes → Live → Option Bytes → Live → StartStep → Type 0
StartContinues step told0 live0 told1 live1 r =
    (front : FrontEnd) (real : IsFrontEnd front) (before : List Out) (c : Course Start) → StepStands front told0 before live0 step c → StepStands front told1 before live1 r c

abbrev pub StartConcludes : StartStep → Option Bytes → Live → Option Bytes → Live → Started → Type 0
StartConcludes step told0 live0 told1 live1 end =
    (front : FrontEnd) (real : IsFrontEnd front) (before : List Out) (c : Course Start) → StepStands front told0 before live0 step c → StartEnded front told1 before live1 (start_of end) c
