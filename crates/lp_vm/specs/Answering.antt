-- What a question reaches, how its function begins, and what is answered.
use Rattle.std.specs.Prelude.{◌≡◌, ◌++◌, ℕ, List, Option, Some, length, reverse}
use Rattle.std.specs.Option.{option_to_list}
use Rattle.lp_values.specs.declared.id.ObjId.{ObjId}
use Rattle.lp_values.specs.declared.value.Value.{Value}
use Rattle.lp_code.specs.declared.program.FunRow.{FunRow}
use Rattle.lp_code.specs.declared.program.RawProgram.{RawProgram}
use Rattle.lp_code.specs.Programs.{IsFunction}
use Rattle.lp_events.specs.declared.out.Out.{Out}
use Rattle.lp_swapfile.specs.Device.{Bytes}
use Rattle.lp_language.specs.Course.{Ask, Course, End, Outcome, Reply, Scene, outcome_of}
use Rattle.lp_isa.specs.Machine.{Moment}
use Rattle.lp_meaning.specs.Closing.{Ends, Has}
use Rattle.lp_meaning.specs.FrontEnd.{FrontEnd}
use Rattle.lp_front_end.specs.FrontEnds.{IsFrontEnd}
use Rattle.lp_meaning.specs.FunctionCalls.{place_of, placed_end}
use Rattle.lp_meaning.specs.Questions.{means}
use Rattle.lp_world.specs.declared.frame.Frame.{Frame}
use Rattle.lp_world.specs.declared.live.Live.{Live}
use Rattle.lp_world.specs.Matches.{Around}
use Rattle.lp_frames.specs.declared.entry.Callee.{Callee}
use Rattle.lp_targets.specs.Callees.{IsWorldOf}
use Rattle.lp_asking.specs.declared.asker.Asker.{Asker}
use Rattle.lp_asking.specs.declared.ending.Ending.{Ending}
use Rattle.lp_asking.specs.declared.ending.Ending.TheVariants as endings
use Rattle.lp_asking.specs.Asking.{IsBy}
use Rattle.lp_asking.specs.Endings.{plain_end}
use Rattle.lp_vm.specs.declared.entering.Begun.{Begun}
use Rattle.lp_vm.specs.declared.entering.Begun.TheVariants as begins
use Rattle.lp_vm.specs.declared.request.Request.{Request}
use Rattle.lp_reaching.specs.Compiled.{IsCallee}
use Rattle.lp_reaching.specs.Subjects.{Subject, calling_subject, site_of_subject}
use Rattle.lp_vm.specs.Requests.{IsRequest, IsRequestThere}
use Rattle.lp_vm.specs.Going.{IsGoing, IsOutcome}

-- How a function begins

-- the state stands for a question, whose arguments are on top of the stack
pub record IsAsked (told : Option Bytes) (programs : List RawProgram) (live : Live) (stack below : List Value) (asker : Asker) (args budget : ℕ) (a : Ask) : Type 0 where
  pub by : IsBy asker a
  pub world : IsWorldOf told programs live a.world
  pub left : budget ≡ a.budget
  pub lies : stack ≡ below ++ a.arguments
  pub many : length a.arguments ≡ args

-- A question means this call, and what is called is found.
pub record IsCalled (programs : List RawProgram) (asker : Asker) (a : Ask) (callee : Callee) (code : RawProgram) (caller : Option ObjId) (callers : List ObjId) (subject : Subject) : Type 0 where
  pub means_it : means a ≡ Some (calling_subject a callee.this callers subject)
  pub callers_are : callers ≡ reverse (asker.callers.items ++ option_to_list caller)
  pub callee_is : IsCallee programs a.world callee callee.this subject
  pub code_is : callee_is.code ≡ code

-- AN ANSWER: an end of the course, and the state stands for its outcome; the arguments are gone
pub record Answered (front : FrontEnd) (course : Course Reply) (told : Option Bytes) (programs : List RawProgram) (before : List Out) (live : Live) (stack below : List Value) (asker : Asker) (budget : ℕ) (e : Ending) : Type 0 where
  pub end : End Reply
  pub ends : Ends front course end
  pub is : IsOutcome told programs before live asker budget e (outcome_of end)
  pub left : stack ≡ below

-- The function runs, above what lay below the arguments; what its course ends with, with the function's place at a stop
-- without one, the call ends with.
pub record Began (front : FrontEnd) (course : Course Reply) (told : Option Bytes) (programs : List RawProgram) (before : List Out) (live : Live) (stack below : List Value) (frame : Frame) (asker : Asker) (budget : ℕ) (a : Ask) (scene : Scene) : Type 0 where
  pub p : RawProgram
  pub k : ℕ
  pub row : FunRow
  pub function : IsFunction p k row
  pub around : Around
  pub moment : Moment
  pub body : Course Value
  pub going : IsGoing p k row function around moment body told live stack frame asker budget
  pub below_is : around.below ≡ below
  pub before_is : around.before ≡ before
  pub programs_are : around.programs ≡ programs
  pub back : (e : End Value) → Ends front body e → Ends front course (plain_end (placed_end (place_of a.world scene) e))

abbrev pub BeginsTo : Begun → FrontEnd → Course Reply → Option Bytes → List RawProgram → List Out → Live → List Value → List Value → Asker → ℕ → Ask → Scene → Type 0
BeginsTo (begins.Stopped s) front course told programs before live stack below asker budget a scene = Answered front course told programs before live stack below asker budget (endings.Stopped s)
BeginsTo (begins.Runs frame) front course told programs before live stack below asker budget a scene = Began front course told programs before live stack below frame asker budget a scene

abbrev pub Begins : Begun → Callee → RawProgram → Option ObjId → ℕ → Live → List Value → Asker → ℕ → Live → List Value → Asker → ℕ → Type 0
Begins r callee code caller args live0 stack0 asker0 budget0 live1 stack1 asker1 budget1 =
    (front : FrontEnd) (real : IsFrontEnd front) (told : Option Bytes) (programs : List RawProgram) (a : Ask) (callers : List ObjId) (subject : Subject) (below : List Value)
    → IsAsked told programs live0 stack0 below asker0 args budget0 a → IsCalled programs asker0 a callee code caller callers subject
    → BeginsTo r front (calling_subject a callee.this callers subject) told programs live0.outputs live1 stack1 below asker1 budget1 a (site_of_subject a callee.this callers subject).scene

-- What is answered

abbrev pub Entered : Callee → RawProgram → Option ObjId → ℕ → Option Bytes → Live → List Value → Asker → ℕ → Option Bytes → Live → List Value → Asker → ℕ → Ending → Type 0
Entered callee code caller args told0 live0 stack0 asker0 budget0 told1 live1 stack1 asker1 budget1 e =
    (front : FrontEnd) (real : IsFrontEnd front) (programs : List RawProgram) (a : Ask) (callers : List ObjId) (subject : Subject) (below : List Value)
    → IsAsked told0 programs live0 stack0 below asker0 args budget0 a → IsCalled programs asker0 a callee code caller callers subject
    → Answered front (calling_subject a callee.this callers subject) told1 programs live0.outputs live1 stack1 below asker1 budget1 e

-- WHAT IS ANSWERED: an outcome that the meaning has
pub record Serves (front : FrontEnd) (told : Option Bytes) (programs : List RawProgram) (before : List Out) (live : Live) (stack below : List Value) (asker : Asker) (budget : ℕ) (e : Ending) (a : Ask) : Type 0 where
  pub outcome : Outcome
  pub has : Has front a outcome
  pub is : IsOutcome told programs before live asker budget e outcome
  pub left : stack ≡ below

-- for every question of the meaning that is this request
abbrev pub Served : Request → ℕ → Option Bytes → Live → List Value → Asker → ℕ → Option Bytes → Live → List Value → Asker → ℕ → Ending → Type 0
Served request args told0 live0 stack0 asker0 budget0 told1 live1 stack1 asker1 budget1 e =
    (front : FrontEnd) (real : IsFrontEnd front) (programs : List RawProgram) (a : Ask) (below : List Value) → IsAsked told0 programs live0 stack0 below asker0 args budget0 a → IsRequest request told0 programs live0 asker0 a
    → Serves front told1 programs live0.outputs live1 stack1 below asker1 budget1 e a

-- in some world, with a front end, and with what is asked of there
pub record CanServe (told : Option Bytes) (live : Live) (stack : List Value) (asker : Asker) (budget : ℕ) (request : Request) (args : ℕ) : Type 0 where
  pub front : FrontEnd
  pub real : IsFrontEnd front
  pub programs : List RawProgram
  pub ask : Ask
  pub below : List Value
  pub asked : IsAsked told programs live stack below asker args budget ask
  pub is : IsRequest request told programs live asker ask
  pub there : IsRequestThere live request

-- what a call leaves of who asks as it was
pub record IsSameAsker (old new : Asker) : Type 0 where
  pub interactive : new.interactive ≡ old.interactive
  pub loads : new.loads.items ≡ old.loads.items
  pub callers : new.callers.items ≡ old.callers.items
  pub depth : new.depth ≡ old.depth
