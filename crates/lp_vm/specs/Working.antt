-- A job of an efun works for a course of the meaning.
use Rattle.std.specs.Prelude.{◌≡◌, ◌++◌, ⊤, ℕ, List, Option, Some, None, length, map, reverse}
use Rattle.lp_values.specs.declared.id.ObjId.{ObjId}
use Rattle.lp_values.specs.declared.value.Value.{Value}
use Rattle.lp_code.specs.declared.program.RawProgram.{RawProgram}
use Rattle.lp_events.specs.declared.out.Out.{Out}
use Rattle.lp_swapfile.specs.Device.{Bytes}
use Rattle.lp_language.specs.Course.{Ask, Course, End, Load, Scene, State, Wanted, outcome_of}
use Rattle.lp_meaning.specs.Askers as meaning
use Rattle.lp_meaning.specs.Closing.{Ends}
use Rattle.lp_meaning.specs.FrontEnd.{FrontEnd}
use Rattle.lp_front_end.specs.FrontEnds.{IsFrontEnd}
use Rattle.lp_world.specs.declared.live.Live.{Live}
use Rattle.lp_beginning.specs.Beginning.{Fits}
use Rattle.lp_calling.specs.declared.job.Job.{Job}
use Rattle.lp_calling.specs.declared.job.Question.{Question}
use Rattle.lp_calling.specs.declared.job.Question.TheVariants as questions
use Rattle.lp_calling.specs.Jobs.{course_of}
use Rattle.lp_calling.specs.Questions.{applied_name}
use Rattle.lp_targets.specs.Callees.{IsWorldOf}
use Rattle.lp_asking.specs.declared.asker.Asker.{Asker}
use Rattle.lp_asking.specs.declared.ending.Ending.{Ending}
use Rattle.lp_asking.specs.declared.ending.Place.{Place}
use Rattle.lp_asking.specs.Asking.{loading_of}
use Rattle.lp_asking.specs.Endings.{plain_end}
use Rattle.lp_reaching.specs.declared.reached.Reached.{Reached}
use Rattle.lp_reaching.specs.Reaching.{Applies, AsksOutside, ReachesIf}
use Rattle.lp_vm.specs.Growing.{Grows}
use Rattle.lp_vm.specs.Requests.{RunsAt}
use Rattle.lp_vm.specs.Going.{IsOutcome}

-- What a job asks

-- On behalf of a function of this object that called its efun, a job asks so: for a function of another object as that
-- function would, for one as the driver applies it, with the object as the latest caller, and for a load.
abbrev pub IsAskedSo : Question → Asker → ObjId → Ask → Type 0
IsAskedSo (questions.Other ob name) asker this a = AsksOutside asker this ob name a
IsAskedSo (questions.Apply ob applied) asker this a = Applies asker (Some this) ob (applied_name applied) a
IsAskedSo (questions.Load name) asker this a = a.what ≡ Load name Wanted

-- it asks for a function
abbrev pub IsCall : Question → Type 0
IsCall (questions.Other ob name) = ⊤
IsCall (questions.Apply ob applied) = ⊤
IsCall (questions.Load name) = ⊥

-- in some world it asks so
pub record CanReach (this : ObjId) (question : Question) (told : Option Bytes) (live : Live) : Type 0 where
  pub programs : List RawProgram
  pub asker : Asker
  pub ask : Ask
  pub asks : IsAskedSo question asker this ask
  pub world : IsWorldOf told programs live ask.world

-- what each such question reaches
abbrev pub FindsAsked : ObjId → Question → Option Bytes → Live → Option Bytes → Live → Option Reached → Type 0
FindsAsked this question told0 live0 told1 live1 r =
    (programs : List RawProgram) (asker : Asker) (a : Ask) → IsAskedSo question asker this a → IsWorldOf told0 programs live0 a.world → ReachesIf told1 programs live1 asker a r

-- How it works

-- The state stands for a state of the meaning, at which the job stands with these values above those below; it asks on behalf
-- of the function at a place, to which was handed down what who asks has.
pub record IsWorking (at : Place) (job : Job) (told : Option Bytes) (programs : List RawProgram) (before : List Out) (live : Live) (stack : List Value) (asker : Asker) (budget : ℕ) (by : meaning.Asker) (c : Scene) (s : State) (low own : List Value) : Type 0 where
  pub fits : Fits (record { told = told; programs = programs; before = before }) live asker.turn budget s
  pub scene : by.scene ≡ Some c
  pub interactive : by.interactive ≡ asker.interactive
  pub loads : by.loads ≡ map loading_of (reverse asker.loads.items)
  pub runs : RunsAt programs at c
  pub callers : c.callers ≡ reverse asker.callers.items
  pub depth : c.depth ≡ asker.depth
  pub lies : stack ≡ low ++ own
  pub height : length low ≡ job.low

-- so in some world, with a front end
pub record CanWork (at : Place) (job : Job) (told : Option Bytes) (live : Live) (stack : List Value) (asker : Asker) (budget : ℕ) : Type 0 where
  pub front : FrontEnd
  pub real : IsFrontEnd front
  pub programs : List RawProgram
  pub before : List Out
  pub by : meaning.Asker
  pub scene : Scene
  pub state : State
  pub low : List Value
  pub own : List Value
  pub working : IsWorking at job told programs before live stack asker budget by scene state low own

-- THE WORK GOES ON with what is left of the course: what that ends with, the whole ends with.
pub record WorksOn (front : FrontEnd) (at : Place) (course : Course Value) (job : Job) (told : Option Bytes) (old : List RawProgram) (before : List Out) (live : Live) (stack : List Value) (asker : Asker) (budget : ℕ) (by : meaning.Asker) (c : Scene) (low : List Value) : Type 0 where
  pub programs : List RawProgram
  pub grown : Grows old programs
  pub state : State
  pub own : List Value
  pub working : IsWorking at job told programs before live stack asker budget by c state low own
  pub back : (e : End Value) → Ends front (course_of job own by state) e → Ends front course e

-- IT ENDS as the course does, and nothing is left of it on the stack.
pub record WorkedTo (front : FrontEnd) (course : Course Value) (told : Option Bytes) (programs : List RawProgram) (before : List Out) (live : Live) (stack low : List Value) (asker : Asker) (budget : ℕ) (e : Ending) : Type 0 where
  pub end : End Value
  pub ends : Ends front course end
  pub is : IsOutcome told programs before live asker budget e (outcome_of (plain_end end))
  pub left : stack ≡ low

-- in every world in which it worked
abbrev pub Worked : Place → Job → Option Bytes → Live → List Value → Asker → ℕ → Option Bytes → Live → List Value → Asker → ℕ → Ending → Type 0
Worked at job told0 live0 stack0 asker0 budget0 told1 live1 stack1 asker1 budget1 e =
    (front : FrontEnd) (real : IsFrontEnd front) (programs : List RawProgram) (before : List Out) (by : meaning.Asker) (c : Scene) (s : State) (low own : List Value)
    → IsWorking at job told0 programs before live0 stack0 asker0 budget0 by c s low own → WorkedTo front (course_of job own by s) told1 programs before live1 stack1 low asker1 budget1 e

abbrev pub WorkContinues : Place → Job → Option Bytes → Live → List Value → Asker → ℕ → Job → Option Bytes → Live → List Value → Asker → ℕ → Type 0
WorkContinues at job0 told0 live0 stack0 asker0 budget0 job1 told1 live1 stack1 asker1 budget1 =
    (front : FrontEnd) (real : IsFrontEnd front) (programs : List RawProgram) (before : List Out) (by : meaning.Asker) (c : Scene) (s : State) (low own : List Value)
    → IsWorking at job0 told0 programs before live0 stack0 asker0 budget0 by c s low own → WorksOn front at (course_of job0 own by s) job1 told1 programs before live1 stack1 asker1 budget1 by c low

-- what an answer leads to: on, or to the end
abbrev pub WorkTurned : Option Ending → Place → Job → Option Bytes → Live → List Value → Asker → ℕ → Job → Option Bytes → Live → List Value → Asker → ℕ → Type 0
WorkTurned None at job0 told0 live0 stack0 asker0 budget0 job1 told1 live1 stack1 asker1 budget1 = WorkContinues at job0 told0 live0 stack0 asker0 budget0 job1 told1 live1 stack1 asker1 budget1
WorkTurned (Some e) at job0 told0 live0 stack0 asker0 budget0 job1 told1 live1 stack1 asker1 budget1 = Worked at job0 told0 live0 stack0 asker0 budget0 told1 live1 stack1 asker1 budget1 e
