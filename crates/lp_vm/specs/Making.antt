-- An object that was made begins: its job goes on for a course of the meaning.
use Rattle.std.specs.Prelude.{◌≡◌, ◌+◌, ◌≤◌, ◌++◌, ⊤, ℕ, List, Option, Some, None, All, codes, map, reverse}
use Rattle.std.specs.Option.{option_to_list}
use Rattle.lp_values.specs.declared.id.ObjId.{ObjId}
use Rattle.lp_values.specs.declared.value.Value.{Value}
use Rattle.lp_code.specs.declared.program.RawProgram.{RawProgram}
use Rattle.lp_events.specs.declared.out.Out.{Out}
use Rattle.lp_swapfile.specs.Device.{Bytes}
use Rattle.lp_language.specs.World.{Keeps, World}
use Rattle.lp_language.specs.Course.{Ask, Course, End, Reply, Scene, State}
use Rattle.lp_meaning.specs.Askers as meaning
use Rattle.lp_meaning.specs.Closing.{Ends}
use Rattle.lp_meaning.specs.FrontEnd.{FrontEnd}
use Rattle.lp_meaning.specs.FunctionCalls.{callers_behind, depth_behind}
use Rattle.lp_front_end.specs.FrontEnds.{IsFrontEnd}
use Rattle.lp_world.specs.declared.live.Live.{Live}
use Rattle.lp_world.specs.Stands.{Stands}
use Rattle.lp_step.specs.Steps.{IsFit, KeepsVariables}
use Rattle.lp_targets.specs.Callees.{IsWorldOf}
use Rattle.lp_asking.specs.declared.asker.Asker.{Asker}
use Rattle.lp_asking.specs.declared.ending.Ending.{Ending}
use Rattle.lp_asking.specs.declared.ending.Place.{Place}
use Rattle.lp_asking.specs.Asking.{loading_of}
use Rattle.lp_asking.specs.Endings.{IsEndingThere}
use Rattle.lp_reaching.specs.declared.reached.Reached.{Reached}
use Rattle.lp_reaching.specs.Reaching.{Applies, Initialises, ReachesIf}
use Rattle.lp_beginning.specs.declared.job.Making.{Making}
use Rattle.lp_beginning.specs.declared.job.Question.{Question}
use Rattle.lp_beginning.specs.declared.job.Question.TheVariants as questions
use Rattle.lp_beginning.specs.Beginning.{Fits, IsInitialised}
use Rattle.lp_beginning.specs.Feeding.{AsksNext}
use Rattle.lp_beginning.specs.Jobs.{course_of, parts_left}
use Rattle.lp_vm.specs.Growing.{Grows}
use Rattle.lp_vm.specs.Requests.{RunsAt}
use Rattle.lp_vm.specs.Answering.{Answered, IsSameAsker}

-- What the job asks

-- On behalf of who asks it asks so: for the initialisers of a part, and for `create` as the driver applies it, for an efun with
-- the object that called it as the latest caller.
abbrev pub IsAskedFor : Question → Asker → Option ObjId → Ask → Type 0
IsAskedFor (questions.Initialise ob part) asker caller a = Initialises asker caller ob part a
IsAskedFor (questions.Create ob) asker caller a = Applies asker caller ob (codes "create") a

-- in some world it asks so
pub record CanReachFor (caller : Option ObjId) (question : Question) (told : Option Bytes) (live : Live) : Type 0 where
  pub programs : List RawProgram
  pub asker : Asker
  pub ask : Ask
  pub asks : IsAskedFor question asker caller ask
  pub world : IsWorldOf told programs live ask.world

-- what each such question reaches
abbrev pub FindsFor : Option ObjId → Question → Option Bytes → Live → Option Bytes → Live → Option Reached → Type 0
FindsFor caller question told0 live0 told1 live1 r =
    (programs : List RawProgram) (asker : Asker) (a : Ask) → IsAskedFor question asker caller a → IsWorldOf told0 programs live0 a.world → ReachesIf told1 programs live1 asker a r

-- the object that it asks for
abbrev pub object_for : Question → ObjId
object_for (questions.Initialise ob part) = ob
object_for (questions.Create ob) = ob

-- a job asks a question, which reaches this
pub record MakeAsks (found : Option Reached) (caller : Option ObjId) (job : Making) (told0 : Option Bytes) (live0 : Live) (told1 : Option Bytes) (live1 : Live) : Type 0 where
  pub question : Question
  pub next : AsksNext job question
  pub finds : FindsFor caller question told0 live0 told1 live1 found

-- How it begins

-- who asks is the function that runs there, or the driver
abbrev pub AsksAt : List RawProgram → Option Place → Option Scene → Type 0
AsksAt programs None None = ⊤
AsksAt programs None (Some c) = ⊥
AsksAt programs (Some at) None = ⊥
AsksAt programs (Some at) (Some c) = RunsAt programs at c

-- The state stands for a state of the meaning, in which who asks has what was handed down, and the caller as its latest; and this
-- is the place of who asks.
pub record IsBehind (caller : Option ObjId) (at : Option Place) (told : Option Bytes) (programs : List RawProgram) (before : List Out) (live : Live) (asker : Asker) (budget : ℕ) (by : meaning.Asker) (s : State) : Type 0 where
  pub fits : Fits (record { told = told; programs = programs; before = before }) live asker.turn budget s
  pub interactive : by.interactive ≡ asker.interactive
  pub loads : by.loads ≡ map loading_of (reverse asker.loads.items)
  pub callers : callers_behind by.scene ≡ reverse (asker.callers.items ++ option_to_list caller)
  pub depth : depth_behind by.scene ≡ asker.depth + 1
  pub place : AsksAt programs at by.scene

-- And in each such world the parts that are left of a job have initialisers.
pub record IsMaking (caller : Option ObjId) (at : Option Place) (job : Making) (told : Option Bytes) (programs : List RawProgram) (before : List Out) (live : Live) (asker : Asker) (budget : ℕ) (by : meaning.Asker) (s : State) : Type 0 where
  pub behind : IsBehind caller at told programs before live asker budget by s
  pub parts : (w : World) → Keeps s.world w → All (IsInitialised w job.object) (parts_left job)

-- so in some world, with a front end
pub record CanMake (caller : Option ObjId) (at : Option Place) (job : Making) (told : Option Bytes) (live : Live) (asker : Asker) (budget : ℕ) : Type 0 where
  pub front : FrontEnd
  pub real : IsFrontEnd front
  pub programs : List RawProgram
  pub before : List Out
  pub by : meaning.Asker
  pub state : State
  pub making : IsMaking caller at job told programs before live asker budget by state

-- it asks so, whoever asks
abbrev pub CanAskNext : Option ObjId → Making → Option Bytes → Live → Type 0
CanAskNext caller job told live = (at : Option Place) × (asker : Asker) × (budget : ℕ) × CanMake caller at job told live asker budget

-- THE JOB GOES ON with what is left of the course: what that ends with, the whole ends with.
pub record MakesOn (front : FrontEnd) (caller : Option ObjId) (at : Option Place) (course : Course Reply) (job : Making) (told : Option Bytes) (old : List RawProgram) (before : List Out) (live : Live) (asker : Asker) (budget : ℕ) (by : meaning.Asker) : Type 0 where
  pub programs : List RawProgram
  pub grown : Grows old programs
  pub state : State
  pub making : IsMaking caller at job told programs before live asker budget by state
  pub back : (e : End Reply) → Ends front (course_of job by state) e → Ends front course e

abbrev pub MakeContinues : Option ObjId → Option Place → Making → Option Bytes → Live → Asker → ℕ → Making → Option Bytes → Live → Asker → ℕ → Type 0
MakeContinues caller at job0 told0 live0 asker0 budget0 job1 told1 live1 asker1 budget1 =
    (front : FrontEnd) (real : IsFrontEnd front) (programs : List RawProgram) (before : List Out) (by : meaning.Asker) (s : State)
    → IsMaking caller at job0 told0 programs before live0 asker0 budget0 by s → MakesOn front caller at (course_of job0 by s) job1 told1 programs before live1 asker1 budget1 by

-- IT ENDS as the course does, in every world in which it began; the stack is as it was.
abbrev pub Made : Option ObjId → Option Place → Making → Option Bytes → Live → List Value → Asker → ℕ → Option Bytes → Live → List Value → Asker → ℕ → Ending → Type 0
Made caller at job told0 live0 stack0 asker0 budget0 told1 live1 stack1 asker1 budget1 e =
    (front : FrontEnd) (real : IsFrontEnd front) (programs : List RawProgram) (before : List Out) (by : meaning.Asker) (s : State)
    → IsMaking caller at job told0 programs before live0 asker0 budget0 by s → Answered front (course_of job by s) told1 programs before live1 stack1 stack0 asker1 budget1 e

-- The job of a new object ends as its course does. The budget does not rise; who asks is as before, but for the turn; what is in
-- memory stays there; and the state is closed.
pub record Makes (caller : Option ObjId) (at : Option Place) (job : Making) (told0 : Option Bytes) (live0 : Live) (stack0 : List Value) (asker0 : Asker) (budget0 : ℕ) (told1 : Option Bytes) (live1 : Live) (stack1 : List Value) (asker1 : Asker) (budget1 : ℕ) (e : Ending) : Type 0 where
  pub made : Made caller at job told0 live0 stack0 asker0 budget0 told1 live1 stack1 asker1 budget1 e
  pub same : IsSameAsker asker0 asker1
  pub spends : budget1 ≤ budget0
  pub home : KeepsVariables live0.objects live1.objects
  pub fit : IsFit live1 stack1
  pub there : IsEndingThere live1.cells e

-- the live state stands for some world
abbrev pub StandsForOne : Option Bytes → Live → Type 0
StandsForOne told live = (programs : List RawProgram) × (w : World) × Stands told programs live w
