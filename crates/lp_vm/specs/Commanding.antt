-- A living object carries out a line: as the driver asks, or an efun.
use Rattle.std.specs.Prelude.{◌≡◌, ◌+◌, ◌++◌, ◌<◌, ◌≤◌, ⊤, ℕ, List, Option, Some, None, codes, map, reverse}
use Rattle.std.specs.Option.{option_to_list}
use Rattle.lp_values.specs.declared.id.ObjId.{ObjId}
use Rattle.lp_values.specs.declared.value.Value.{Value}
use Rattle.lp_code.specs.declared.program.RawProgram.{RawProgram}
use Rattle.lp_events.specs.declared.out.Out.{Out}
use Rattle.lp_swapfile.specs.Device.{Bytes}
use Rattle.lp_language.specs.Course.{Ask, Command, Course, End, State}
use Rattle.lp_meaning.specs.Askers as meaning
use Rattle.lp_meaning.specs.Closing.{Ends}
use Rattle.lp_meaning.specs.FrontEnd.{FrontEnd}
use Rattle.lp_meaning.specs.FunctionCalls.{callers_behind, depth_behind}
use Rattle.lp_front_end.specs.FrontEnds.{IsFrontEnd}
use Rattle.lp_world.specs.declared.live.Live.{Live}
use Rattle.lp_step.specs.Steps.{IsFit, KeepsVariables}
use Rattle.lp_beginning.specs.Beginning.{Fits}
use Rattle.lp_asking.specs.declared.asker.Asker.{Asker}
use Rattle.lp_asking.specs.declared.ending.Ending.{Ending}
use Rattle.lp_asking.specs.declared.ending.Ending.TheVariants as endings
use Rattle.lp_asking.specs.Asking.{loading_of}
use Rattle.lp_asking.specs.Endings.{IsEndingThere}
use Rattle.lp_commanding.specs.declared.job.Commanding.{Commanding}
use Rattle.lp_commanding.specs.declared.job.Fed.TheVariants as fed
use Rattle.lp_commanding.specs.declared.job.Question.{Question}
use Rattle.lp_commanding.specs.declared.job.Question.TheVariants as questions
use Rattle.lp_commanding.specs.Going.{IsPopped, Takes}
use Rattle.lp_commanding.specs.Jobs.{IsAsking, course_of, questions_left}
use Rattle.lp_reaching.specs.declared.reached.Reached.{Reached}
use Rattle.lp_vm.specs.declared.commanding.Commanded.{Commanded}
use Rattle.lp_vm.specs.declared.commanding.Commanded.TheVariants as steps
use Rattle.lp_vm.specs.declared.request.Request.TheVariants as requests
use Rattle.lp_vm.specs.Answering.{CanServe, IsAsked, IsSameAsker, Serves}
use Rattle.lp_vm.specs.Cycle.{Answers}
use Rattle.lp_vm.specs.Growing.{Grows}
use Rattle.lp_vm.specs.Working.{WorkedTo}

-- The whole command

-- It is asked that a living object carries out a line: by the driver, or for an efun with the object that called it as the latest
-- caller.
pub record AsksCommand (asker : Asker) (caller : Option ObjId) (o : ObjId) (line : List ℕ) (a : Ask) : Type 0 where
  pub callers : callers_behind a.scene ≡ reverse (asker.callers.items ++ option_to_list caller)
  pub what : a.what ≡ Command o line

-- In some world such a question is asked.
pub record CanCommand (caller : Option ObjId) (o : ObjId) (line : List ℕ) (told : Option Bytes) (live : Live) (stack : List Value) (asker : Asker) (budget : ℕ) : Type 0 where
  pub programs : List RawProgram
  pub ask : Ask
  pub below : List Value
  pub asked : IsAsked told programs live stack below asker 0 budget ask
  pub asks : AsksCommand asker caller o line ask

-- and there is a front end
pub record CanObey (caller : Option ObjId) (o : ObjId) (line : List ℕ) (told : Option Bytes) (live : Live) (stack : List Value) (asker : Asker) (budget : ℕ) : Type 0 where
  pub front : FrontEnd
  pub real : IsFrontEnd front
  pub can : CanCommand caller o line told live stack asker budget

-- THE COMMAND: for each such question of the meaning the outcome is one that the question has. The state stands for the outcome's
-- world, budget, player and commands, its outputs follow those that were there, and the stack is as it was.
abbrev pub CommandIsMeant : Option ObjId → ObjId → List ℕ → Option Bytes → Live → List Value → Asker → ℕ → Option Bytes → Live → List Value → Asker → ℕ → Ending → Type 0
CommandIsMeant caller o line told0 live0 stack0 asker0 budget0 told1 live1 stack1 asker1 budget1 e =
    (front : FrontEnd) (real : IsFrontEnd front) (programs : List RawProgram) (a : Ask) (below : List Value) → IsAsked told0 programs live0 stack0 below asker0 0 budget0 a → AsksCommand asker0 caller o line a
    → Serves front told1 programs live0.outputs live1 stack1 below asker1 budget1 e a

-- A command is carried out so. The budget does not rise; who asks is as before, but for the turn; what is in memory stays there; and
-- the state is closed.
pub record Obeys (caller : Option ObjId) (o : ObjId) (line : List ℕ) (told0 : Option Bytes) (live0 : Live) (stack0 : List Value) (asker0 : Asker) (budget0 : ℕ) (told1 : Option Bytes) (live1 : Live) (stack1 : List Value) (asker1 : Asker) (budget1 : ℕ) (e : Ending) : Type 0 where
  pub meant : CommandIsMeant caller o line told0 live0 stack0 asker0 budget0 told1 live1 stack1 asker1 budget1 e
  pub same : IsSameAsker asker0 asker1
  pub spends : budget1 ≤ budget0
  pub home : KeepsVariables live0.objects live1.objects
  pub fit : IsFit live1 stack1
  pub there : IsEndingThere live1.cells e

-- Its job

-- The state stands for a state of the meaning, in which who asks has what was handed down, and the caller as its latest.
pub record IsOnBehalf (caller : Option ObjId) (told : Option Bytes) (programs : List RawProgram) (before : List Out) (live : Live) (asker : Asker) (budget : ℕ) (by : meaning.Asker) (s : State) : Type 0 where
  pub fits : Fits (record { told = told; programs = programs; before = before }) live asker.turn budget s
  pub interactive : by.interactive ≡ asker.interactive
  pub loads : by.loads ≡ map loading_of (reverse asker.loads.items)
  pub callers : callers_behind by.scene ≡ reverse (asker.callers.items ++ option_to_list caller)
  pub depth : depth_behind by.scene ≡ asker.depth + 1

-- so in some world, with a front end
pub record CanCarryOut (caller : Option ObjId) (told : Option Bytes) (live : Live) (asker : Asker) (budget : ℕ) : Type 0 where
  pub front : FrontEnd
  pub real : IsFrontEnd front
  pub programs : List RawProgram
  pub before : List Out
  pub by : meaning.Asker
  pub state : State
  pub behalf : IsOnBehalf caller told programs before live asker budget by state

-- THE JOB GOES ON with what is left of the course: what that ends with, the whole ends with.
pub record CommandsOn (front : FrontEnd) (caller : Option ObjId) (course : Course Value) (job : Commanding) (told : Option Bytes) (old : List RawProgram) (before : List Out) (live : Live) (asker : Asker) (budget : ℕ) (by : meaning.Asker) : Type 0 where
  pub programs : List RawProgram
  pub grown : Grows old programs
  pub state : State
  pub behalf : IsOnBehalf caller told programs before live asker budget by state
  pub back : (e : End Value) → Ends front (course_of job by state) e → Ends front course e

abbrev pub CommandContinues : Option ObjId → Commanding → Option Bytes → Live → Asker → ℕ → Commanding → Option Bytes → Live → Asker → ℕ → Type 0
CommandContinues caller job0 told0 live0 asker0 budget0 job1 told1 live1 asker1 budget1 =
    (front : FrontEnd) (real : IsFrontEnd front) (programs : List RawProgram) (before : List Out) (by : meaning.Asker) (s : State)
    → IsOnBehalf caller told0 programs before live0 asker0 budget0 by s → CommandsOn front caller (course_of job0 by s) job1 told1 programs before live1 asker1 budget1 by

-- IT ENDS as the course does, in every world in which it was on that behalf; the stack is as it was.
abbrev pub CarriedOut : Option ObjId → Commanding → Option Bytes → Live → List Value → Asker → ℕ → Option Bytes → Live → List Value → Asker → ℕ → Ending → Type 0
CarriedOut caller job told0 live0 stack0 asker0 budget0 told1 live1 stack1 asker1 budget1 e =
    (front : FrontEnd) (real : IsFrontEnd front) (programs : List RawProgram) (before : List Out) (by : meaning.Asker) (s : State)
    → IsOnBehalf caller told0 programs before live0 asker0 budget0 by s → WorkedTo front (course_of job by s) told1 programs before live1 stack1 stack0 asker1 budget1 e

-- and likewise
pub record CarriesOut (caller : Option ObjId) (job : Commanding) (told0 : Option Bytes) (live0 : Live) (stack0 : List Value) (asker0 : Asker) (budget0 : ℕ) (told1 : Option Bytes) (live1 : Live) (stack1 : List Value) (asker1 : Asker) (budget1 : ℕ) (e : Ending) : Type 0 where
  pub carried : CarriedOut caller job told0 live0 stack0 asker0 budget0 told1 live1 stack1 asker1 budget1 e
  pub same : IsSameAsker asker0 asker1
  pub spends : budget1 ≤ budget0
  pub home : KeepsVariables live0.objects live1.objects
  pub fit : IsFit live1 stack1
  pub there : IsEndingThere live1.cells e

-- Its questions

-- the name of the function that is asked for
abbrev pub name_asked : Question → List ℕ
name_asked (questions.Action giver name) = name
name_asked (questions.CatchTell o) = codes "catch_tell"

-- What an answer makes of a job: with a value it goes on, or ends; a stop ends it, and its command runs no longer.
abbrev pub FeedsCommand : Option Ending → Ending → Commanding → Live → Asker → Commanding → Asker → Type 0
FeedsCommand None (endings.Value v) job0 live asker0 job1 asker1 = Takes fed.Goes job0 v live asker0.turn job1 asker1.turn
FeedsCommand None (endings.Stopped s) job0 live asker0 job1 asker1 = ⊥
FeedsCommand (Some e) (endings.Value v) job0 live asker0 job1 asker1 = (w : Value) × (e ≡ endings.Value w) × Takes (fed.Ends w) job0 v live asker0.turn job1 asker1.turn
FeedsCommand (Some e) (endings.Stopped s) job0 live asker0 job1 asker1 = (e ≡ endings.Stopped s) × IsPopped asker0.turn asker1.turn

-- where it goes on it asks less from now on
abbrev pub AsksLess : Option Ending → Commanding → Commanding → Type 0
AsksLess None job0 job1 = questions_left job1 < questions_left job0
AsksLess (Some e) job0 job1 = ⊤

-- what an answer leads to: on, or to the end
abbrev pub CommandTurned : Option Ending → Option ObjId → Commanding → Option Bytes → Live → List Value → Asker → ℕ → Commanding → Option Bytes → Live → List Value → Asker → ℕ → Type 0
CommandTurned None caller job0 told0 live0 stack0 asker0 budget0 job1 told1 live1 stack1 asker1 budget1 = CommandContinues caller job0 told0 live0 asker0 budget0 job1 told1 live1 asker1 budget1
CommandTurned (Some e) caller job0 told0 live0 stack0 asker0 budget0 job1 told1 live1 stack1 asker1 budget1 = CarriedOut caller job0 told0 live0 stack0 asker0 budget0 told1 live1 stack1 asker1 budget1 e

-- A job asks what reaches this, with one argument. It can be answered, the stack is then as it was, and whatever is answered, the
-- job goes on with that, or ends.
pub record CommandAsks (found : Option Reached) (caller : Option ObjId) (job0 : Commanding) (told0 : Option Bytes) (live0 : Live) (stack0 : List Value) (asker0 : Asker) (job1 : Commanding) (told1 : Option Bytes) (live1 : Live) (stack1 : List Value) (asker1 : Asker) : Type 0 where
  pub home : KeepsVariables live0.objects live1.objects
  pub fit : IsFit live1 stack1
  pub same : IsSameAsker asker0 asker1
  pub left : questions_left job1 ≤ questions_left job0
  pub asking : IsAsking job1
  pub can : (budget : ℕ) → CanCarryOut caller told0 live0 asker0 budget → CanServe told1 live1 stack1 asker1 budget (requests.Function found) 1
  pub lies : (told2 : Option Bytes) (live2 : Live) (stack2 : List Value) (asker2 : Asker) (budget budget2 : ℕ) (e : Ending)
      → CanCarryOut caller told0 live0 asker0 budget → Answers (requests.Function found) 1 told1 live1 stack1 asker1 budget told2 live2 stack2 asker2 budget2 e → stack2 ≡ stack0
  pub turns : (job3 : Commanding) (told2 : Option Bytes) (live2 : Live) (stack2 : List Value) (asker2 asker3 : Asker) (budget budget2 : ℕ) (e : Ending) (r : Option Ending)
      → Answers (requests.Function found) 1 told1 live1 stack1 asker1 budget told2 live2 stack2 asker2 budget2 e → FeedsCommand r e job1 live2 asker2 job3 asker3 → IsSameAsker asker2 asker3
      → CommandTurned r caller job0 told0 live0 stack0 asker0 budget job3 told2 live2 stack2 asker3 budget2

-- or it ends, as its course does
abbrev pub CommandSteps : Commanded → Option ObjId → Commanding → Option Bytes → Live → List Value → Asker → Commanding → Option Bytes → Live → List Value → Asker → Type 0
CommandSteps (steps.Ended e) caller job0 told0 live0 stack0 asker0 job1 told1 live1 stack1 asker1 = (budget : ℕ) → CarriesOut caller job0 told0 live0 stack0 asker0 budget told1 live1 stack1 asker1 budget e
CommandSteps (steps.Asks found) caller job0 told0 live0 stack0 asker0 job1 told1 live1 stack1 asker1 = CommandAsks found caller job0 told0 live0 stack0 asker0 job1 told1 live1 stack1 asker1

-- what it asks can be asked, on whatever budget
abbrev pub CanStep : Option ObjId → Option Bytes → Live → Asker → Type 0
CanStep caller told live asker = (budget : ℕ) × CanCarryOut caller told live asker budget
