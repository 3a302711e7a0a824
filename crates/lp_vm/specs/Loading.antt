-- A file is loaded on behalf of who asks.
use Rattle.std.specs.Prelude.{◌≡◌, ◌+◌, ◌<◌, ◌≤◌, ◌++◌, ◌∷◌, ⊤, ℕ, List, [], Option}
use Rattle.lp_values.specs.declared.id.ObjId.{ObjId}
use Rattle.lp_values.specs.declared.value.Value.{Value}
use Rattle.lp_code.specs.declared.program.RawProgram.{RawProgram}
use Rattle.lp_events.specs.declared.out.Out.{Out}
use Rattle.lp_swapfile.specs.Device.{Bytes}
use Rattle.lp_language.specs.Course.{Ask, Course, End, Load, Reply, State}
use Rattle.lp_meaning.specs.Askers as meaning
use Rattle.lp_meaning.specs.Askers.{question}
use Rattle.lp_meaning.specs.Closing.{Ends}
use Rattle.lp_meaning.specs.FileLoads.{load_call}
use Rattle.lp_meaning.specs.FrontEnd.{FrontEnd}
use Rattle.lp_front_end.specs.FrontEnds.{IsFrontEnd}
use Rattle.lp_world.specs.declared.live.Live.{Live}
use Rattle.lp_step.specs.Steps.{IsFit, KeepsVariables}
use Rattle.lp_asking.specs.declared.asker.Asker.{Asker}
use Rattle.lp_asking.specs.declared.ending.Place.{Place}
use Rattle.lp_loading.specs.declared.job.Answer.{Answer}
use Rattle.lp_loading.specs.declared.job.Answer.TheVariants as answers
use Rattle.lp_loading.specs.declared.job.Begun.{Begun}
use Rattle.lp_loading.specs.declared.job.Begun.TheVariants as begun
use Rattle.lp_loading.specs.declared.job.Going.{Going}
use Rattle.lp_loading.specs.declared.job.LoadJob.{LoadJob}
use Rattle.lp_loading.specs.declared.job.Purpose.{Purpose}
use Rattle.lp_loading.specs.declared.job.Step.{Step}
use Rattle.lp_loading.specs.Going.{Goes, HasBegun, HasSpent, IsAnswerOf, IsAnswerThere, IsAt, setting, state_in}
use Rattle.lp_loading.specs.Loads.{IsUnderWay, going_course, kind_of, loads_of}
use Rattle.lp_efuns.specs.declared.caller.Turn.{Turn}
use Rattle.lp_asking.specs.declared.asker.Loading.{Loading}
use Rattle.lp_vm.specs.Growing.{Grows}
use Rattle.lp_vm.specs.Answering.{IsSameAsker}
use Rattle.lp_vm.specs.Making.{IsBehind}

-- the course of a load that is asked for on behalf of who asks
abbrev pub load_course : List ℕ → Purpose → meaning.Asker → State → Course Reply
load_course name purpose by s = load_call (question (Load name (kind_of purpose)) [] by s) name (kind_of purpose)

-- A LOAD ENDS as its course does: the state stands for the state then, with the programs that were there and those that loads put
-- behind them; its outputs follow those that were there; and the stack is as it was.
pub record LoadEnds (front : FrontEnd) (course : Course Reply) (told : Option Bytes) (old : List RawProgram) (before : List Out) (live : Live) (stack below : List Value) (asker : Asker) (budget : ℕ) (r : Answer) : Type 0 where
  pub end : End Reply
  pub ends : Ends front course end
  pub programs : List RawProgram
  pub grown : Grows old programs
  pub at : IsAt (setting told programs before) live asker.turn budget (state_in end)
  pub answer : IsAnswerOf programs r end
  pub left : stack ≡ below

-- in every world in which it was asked for
abbrev pub Loaded : Option ObjId → Option Place → List ℕ → Purpose → Option Bytes → Live → List Value → Asker → ℕ → Option Bytes → Live → List Value → Asker → ℕ → Answer → Type 0
Loaded caller at name purpose told0 live0 stack0 asker0 budget0 told1 live1 stack1 asker1 budget1 r =
    (front : FrontEnd) (real : IsFrontEnd front) (programs : List RawProgram) (before : List Out) (by : meaning.Asker) (s : State)
    → IsBehind caller at told0 programs before live0 asker0 budget0 by s → LoadEnds front (load_course name purpose by s) told1 programs live0.outputs live1 stack1 stack0 asker1 budget1 r

-- A load pays 1000 first, or it is stopped.
abbrev pub IsPaidFor : Answer → ℕ → ℕ → Type 0
IsPaidFor (answers.Value v) budget0 budget1 = budget1 + 1000 ≤ budget0
IsPaidFor (answers.Faulty fs) budget0 budget1 = budget1 + 1000 ≤ budget0
IsPaidFor (answers.Stopped stop) budget0 budget1 = ⊤

-- A load is answered so. It was paid; the budget does not rise; who asks is as before, but for the turn; what is in memory stays
-- there; the state is closed; and a value that it gives is there.
pub record Loads (caller : Option ObjId) (at : Option Place) (name : List ℕ) (purpose : Purpose) (told0 : Option Bytes) (live0 : Live) (stack0 : List Value) (asker0 : Asker) (budget0 : ℕ) (told1 : Option Bytes) (live1 : Live) (stack1 : List Value) (asker1 : Asker) (budget1 : ℕ) (r : Answer) : Type 0 where
  pub loaded : Loaded caller at name purpose told0 live0 stack0 asker0 budget0 told1 live1 stack1 asker1 budget1 r
  pub paid : IsPaidFor r budget0 budget1
  pub same : IsSameAsker asker0 asker1
  pub spends : budget1 ≤ budget0
  pub home : KeepsVariables live0.objects live1.objects
  pub fit : IsFit live1 stack1
  pub there : IsAnswerThere live1.cells r

-- in some world it is asked for, with a front end
pub record CanLoad (caller : Option ObjId) (at : Option Place) (told : Option Bytes) (live : Live) (asker : Asker) (budget : ℕ) : Type 0 where
  pub front : FrontEnd
  pub real : IsFrontEnd front
  pub programs : List RawProgram
  pub before : List Out
  pub by : meaning.Asker
  pub state : State
  pub behind : IsBehind caller at told programs before live asker budget by state

-- How it begins

-- the load is the innermost under way, and nothing else changed of who asks
pub record HasLoad (name : List ℕ) (job : LoadJob) (old new : Asker) : Type 0 where
  pub turn : new.turn ≡ old.turn
  pub interactive : new.interactive ≡ old.interactive
  pub callers : new.callers.items ≡ old.callers.items
  pub depth : new.depth ≡ old.depth
  pub loads : new.loads.items ≡ old.loads.items ++ record { name = name; nested = job.nested } ∷ []

-- It begins: its price is paid. Each such question of the meaning is its course then.
pub record BeginsLoad (job : LoadJob) (name : List ℕ) (purpose : Purpose) (asker0 : Asker) (budget0 : ℕ) (asker1 : Asker) (budget1 : ℕ) : Type 0 where
  pub load : HasLoad name job asker0 asker1
  pub paid : budget0 ≡ budget1 + 1000
  pub begun : (a : Ask) → a.budget ≡ budget0 → a.loads ≡ loads_of asker0.loads.items → HasBegun job name purpose asker0.loads.items a budget1

-- or its price cannot be paid, and nothing changed of who asks
pub record CannotPay (name : List ℕ) (purpose : Purpose) (asker0 : Asker) (budget0 : ℕ) (asker1 : Asker) (budget1 : ℕ) : Type 0 where
  pub asker : asker1 ≡ asker0
  pub spent : (a : Ask) → a.budget ≡ budget0 → a.loads ≡ loads_of asker0.loads.items → HasSpent name purpose a budget1
  pub none : budget1 ≡ 0

abbrev pub LoadBegins : Begun → List ℕ → Purpose → Asker → ℕ → Asker → ℕ → Type 0
LoadBegins (begun.Runs job) name purpose asker0 budget0 asker1 budget1 = BeginsLoad job name purpose asker0 budget0 asker1 budget1
LoadBegins begun.Spent name purpose asker0 budget0 asker1 budget1 = CannotPay name purpose asker0 budget0 asker1 budget1

-- How it goes on

-- The job of a load stands for its course: the load is the innermost under way of who asks, and more turns are left than budget.
pub record IsLoading (caller : Option ObjId) (at : Option Place) (job : LoadJob) (told : Option Bytes) (programs : List RawProgram) (before : List Out) (live : Live) (asker : Asker) (budget : ℕ) (by : meaning.Asker) (s : State) (turns : ℕ) : Type 0 where
  pub behind : IsBehind caller at told programs before live asker budget by s
  pub under : IsUnderWay job asker.loads.items by
  pub enough : budget < turns

-- so in some world, with a front end
pub record CanLoadOn (caller : Option ObjId) (at : Option Place) (job : LoadJob) (told : Option Bytes) (live : Live) (asker : Asker) (budget : ℕ) : Type 0 where
  pub front : FrontEnd
  pub real : IsFrontEnd front
  pub programs : List RawProgram
  pub before : List Out
  pub by : meaning.Asker
  pub state : State
  pub turns : ℕ
  pub loading : IsLoading caller at job told programs before live asker budget by state turns

-- what it does next, with whatever budget and turn
abbrev pub LeadsOn : Step → LoadJob → Going → List Loading → Option Bytes → Live → Option Bytes → Live → Type 0
LeadsOn r job going loads told0 live0 told1 live1 = (budget : ℕ) (turn : Turn) → Goes r job going loads told0 live0 budget told1 live1 budget turn

-- IT GOES ON with what is left of the course: what that ends with, the whole ends with.
pub record LoadGoesOn (front : FrontEnd) (caller : Option ObjId) (at : Option Place) (course : Course Reply) (job : LoadJob) (going : Going) (told : Option Bytes) (old : List RawProgram) (before : List Out) (live : Live) (asker : Asker) (budget : ℕ) (by : meaning.Asker) : Type 0 where
  pub programs : List RawProgram
  pub grown : Grows old programs
  pub state : State
  pub turns : ℕ
  pub loading : IsLoading caller at job told programs before live asker budget by state turns
  pub back : (e : End Reply) → Ends front (going_course turns job going by state) e → Ends front course e

abbrev pub LoadContinues : Option ObjId → Option Place → LoadJob → Going → Option Bytes → Live → Asker → ℕ → LoadJob → Going → Option Bytes → Live → Asker → ℕ → Type 0
LoadContinues caller at job0 going0 told0 live0 asker0 budget0 job1 going1 told1 live1 asker1 budget1 =
    (front : FrontEnd) (real : IsFrontEnd front) (programs : List RawProgram) (before : List Out) (by : meaning.Asker) (s : State) (turns : ℕ)
    → IsLoading caller at job0 told0 programs before live0 asker0 budget0 by s turns → LoadGoesOn front caller at (going_course turns job0 going0 by s) job1 going1 told1 programs before live1 asker1 budget1 by

-- IT ENDS as its course does, in every world in which it went on.
abbrev pub LoadedOn : Option ObjId → Option Place → LoadJob → Going → Option Bytes → Live → List Value → Asker → ℕ → Option Bytes → Live → List Value → Asker → ℕ → Answer → Type 0
LoadedOn caller at job going told0 live0 stack0 asker0 budget0 told1 live1 stack1 asker1 budget1 r =
    (front : FrontEnd) (real : IsFrontEnd front) (programs : List RawProgram) (before : List Out) (by : meaning.Asker) (s : State) (turns : ℕ)
    → IsLoading caller at job told0 programs before live0 asker0 budget0 by s turns → LoadEnds front (going_course turns job going by s) told1 programs before live1 stack1 stack0 asker1 budget1 r

-- A load that goes on is answered so, and likewise.
pub record LoadsOn (caller : Option ObjId) (at : Option Place) (job : LoadJob) (going : Going) (told0 : Option Bytes) (live0 : Live) (stack0 : List Value) (asker0 : Asker) (budget0 : ℕ) (told1 : Option Bytes) (live1 : Live) (stack1 : List Value) (asker1 : Asker) (budget1 : ℕ) (r : Answer) : Type 0 where
  pub loaded : LoadedOn caller at job going told0 live0 stack0 asker0 budget0 told1 live1 stack1 asker1 budget1 r
  pub same : IsSameAsker asker0 asker1
  pub spends : budget1 ≤ budget0
  pub home : KeepsVariables live0.objects live1.objects
  pub fit : IsFit live1 stack1
  pub there : IsAnswerThere live1.cells r
