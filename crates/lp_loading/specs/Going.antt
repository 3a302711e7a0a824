-- How loads begin, go on, and take what was answered.
use Rattle.std.specs.Prelude.{◌≡◌, ◌+◌, ◌<◌, ◌≤◌, ⊤, ℕ, List, [], Option}
use Rattle.lp_values.specs.declared.id.ProgId.{ProgId}
use Rattle.lp_cells.specs.Cells.{IsThere, Store}
use Rattle.lp_code.specs.declared.program.RawProgram.{RawProgram}
use Rattle.lp_events.specs.declared.out.Out.{Out}
use Rattle.lp_swapfile.specs.Device.{Bytes}
use Rattle.lp_language.specs.Course as course
use Rattle.lp_language.specs.Course.{Ask, Asks, Course, End, Gives, Stops, IsFaulty, Plain, Reply, State, after, end_of_reply, here, Spent}
use Rattle.lp_meaning.specs.Askers.{Asker, asker_of, question, state_of}
use Rattle.lp_meaning.specs.Closing.{Ends}
use Rattle.lp_meaning.specs.FileLoads.{load_call, making, under_way}
use Rattle.lp_meaning.specs.FrontEnd.{FrontEnd}
use Rattle.lp_front_end.specs.FrontEnds.{IsFrontEnd}
use Rattle.lp_world.specs.declared.live.Live.{Live}
use Rattle.lp_efuns.specs.declared.caller.Turn.{Turn}
use Rattle.lp_efuns.specs.Turns.{Setting}
use Rattle.lp_asking.specs.Endings.{IsCauseThere, IsStop}
use Rattle.lp_asking.specs.declared.asker.Loading.{Loading}
use Rattle.lp_beginning.specs.Beginning.{Fits, HasItsParts}
use Rattle.lp_beginning.specs.Ends.{state_at}
use Rattle.lp_beginning.specs.Jobs.{course_of}
use Rattle.lp_beginning.specs.declared.job.Making.{Making}
use Rattle.lp_loading.specs.Growing.{Grows}
use Rattle.lp_loading.specs.Loads.{IsUnderWay, asked_for, going_course, kind_of, waiting_course}
use Rattle.lp_loading.specs.declared.job.Answer.{Answer}
use Rattle.lp_loading.specs.declared.job.Answer.TheVariants as answers
use Rattle.lp_loading.specs.declared.job.Begun.{Begun}
use Rattle.lp_loading.specs.declared.job.Begun.TheVariants as begun
use Rattle.lp_loading.specs.declared.job.Fed.{Fed}
use Rattle.lp_loading.specs.declared.job.Fed.TheVariants as fed
use Rattle.lp_loading.specs.declared.job.Going.{Going}
use Rattle.lp_loading.specs.declared.job.Going.TheVariants as goings
use Rattle.lp_loading.specs.declared.job.LoadJob.{LoadJob}
use Rattle.lp_loading.specs.declared.job.Purpose.{Purpose}
use Rattle.lp_loading.specs.declared.job.Step.{Step}
use Rattle.lp_loading.specs.declared.job.Step.TheVariants as steps
use Rattle.lp_loading.specs.declared.job.Waiting.{Waiting}

-- what the swap file tells, the programs of all versions, and the outputs before the load
abbrev pub setting : Option Bytes → List RawProgram → List Out → Setting
setting told programs before = record { told = told; programs = programs; before = before }

-- The live state stands for the state of a load, in whose world programs fit their versions and shadows are live.
abbrev pub IsAt : Setting → Live → Turn → ℕ → State → Type 0
IsAt g live turn budget s = Fits g live turn budget s

-- the state in which something ends
abbrev pub state_in : End Reply → State
state_in e = state_at e

-- An answer is this end: a value, the faults of a file, or a stop.
abbrev pub IsAnswerOf : List RawProgram → Answer → End Reply → Type 0
IsAnswerOf programs (answers.Value v) (Gives (Plain u) s) = v ≡ u
IsAnswerOf programs (answers.Faulty fs) (Gives (IsFaulty gs) s) = fs.items ≡ gs
IsAnswerOf programs (answers.Stopped y) (Stops x s) = IsStop programs s.world y x
IsAnswerOf programs _ _ = ⊥

-- it is one in a state for which the live state stands
pub record IsEndAt (g : Setting) (a : Answer) (live : Live) (turn : Turn) (budget : ℕ) (e : End Reply) : Type 0 where
  pub answer : IsAnswerOf g.programs a e
  pub at : IsAt g live turn budget (state_in e)

-- the value of an answer is there
abbrev pub IsAnswerThere : Store → Answer → Type 0
IsAnswerThere cells (answers.Value v) = IsThere cells v
IsAnswerThere cells (answers.Faulty fs) = ⊤
IsAnswerThere cells (answers.Stopped stop) = IsCauseThere cells stop.cause

-- Going on: from some programs, behind which more may stand then

-- It asks for the load of the object with this name, in a state for which the live state stands; and whatever ends what is left
-- behind the answer, ends the course. Where it waits for a parent, so many turns are left, no fewer than the budget.
pub record HasAsked (front : FrontEnd) (name : List ℕ) (waiting : Waiting) (job : LoadJob) (course0 : Course Reply) (old : List RawProgram) (told : Option Bytes) (before : List Out) (live : Live) (turn : Turn) (budget : ℕ) (by : Asker) : Type 0 where
  pub programs : List RawProgram
  pub grown : Grows old programs
  pub state : State
  pub turns : ℕ
  pub at : IsAt (setting told programs before) live turn budget state
  pub enough : budget ≤ turns
  pub ends : (e : End Reply) → Ends front (Asks (question (asked_for name) [] by state) (λ o. waiting_course turns job waiting by (end_of_reply o.answer (after state o)))) e → Ends front course0 e

-- Its object was made, in a state for which the live state stands, and whose world has the parts of the object's job; and whatever
-- ends the course of that job, ends the course.
pub record HasMade (front : FrontEnd) (making : Making) (course0 : Course Reply) (old : List RawProgram) (told : Option Bytes) (before : List Out) (live : Live) (turn : Turn) (budget : ℕ) (by : Asker) : Type 0 where
  pub programs : List RawProgram
  pub grown : Grows old programs
  pub state : State
  pub at : IsAt (setting told programs before) live turn budget state
  pub parts : HasItsParts state.world making
  pub ends : (e : End Reply) → Ends front (course_of making by state) e → Ends front course0 e

-- It ends with this answer, which is an end of the course.
pub record HasEnded (front : FrontEnd) (a : Answer) (course0 : Course Reply) (old : List RawProgram) (told : Option Bytes) (before : List Out) (live : Live) (turn : Turn) (budget : ℕ) : Type 0 where
  pub programs : List RawProgram
  pub grown : Grows old programs
  pub end : End Reply
  pub is : IsEndAt (setting told programs before) a live turn budget end
  pub ends : Ends front course0 end

-- The answer with which it ends by itself is there.
abbrev pub LeadsTo : FrontEnd → Step → LoadJob → Course Reply → List RawProgram → Option Bytes → List Out → Live → Turn → ℕ → Asker → Type 0
LeadsTo front (steps.Asks name waiting) job course0 old told before live turn budget by = HasAsked front name waiting job course0 old told before live turn budget by
LeadsTo front (steps.Makes making) job course0 old told before live turn budget by = HasMade front making course0 old told before live turn budget by
LeadsTo front (steps.Ends a) job course0 old told before live turn budget by = HasEnded front a course0 old told before live turn budget × IsAnswerThere live.cells a

-- A LOAD GOES ON as it means: from each state for which the live state stands, for the front end that there is.
abbrev pub Goes : Step → LoadJob → Going → List Loading → Option Bytes → Live → ℕ → Option Bytes → Live → ℕ → Turn → Type 0
Goes r job going loads told0 live0 budget0 told1 live1 budget1 turn =
    (front : FrontEnd) (programs : List RawProgram) (before : List Out) (by : Asker) (s : State) (turns : ℕ)
    → IsFrontEnd front → IsAt (setting told0 programs before) live0 turn budget0 s → IsUnderWay job loads by → budget0 < turns
    → LeadsTo front r job (going_course turns job going by s) programs told1 before live1 turn budget1 by

-- So it goes on where an object of a version is made for it.
abbrev pub MakesAs : Step → LoadJob → ProgId → Option Bytes → Live → Option Bytes → Live → Type 0
MakesAs r job version told0 live0 told1 live1 =
    (front : FrontEnd) (programs : List RawProgram) (before : List Out) (by : Asker) (s : State) (turn : Turn) (budget : ℕ)
    → IsAt (setting told0 programs before) live0 turn budget s → LeadsTo front r job (making (kind_of job.purpose) by job.name version s) programs told1 before live1 turn budget by

-- Answers

-- It goes on: what was left behind the answer is its course now.
pub record HasTaken (job0 job1 : LoadJob) (waiting : Waiting) (going : Going) (turns : ℕ) (by : Asker) (e : End Reply) (budget : ℕ) : Type 0 where
  pub left : ℕ
  pub enough : budget < left
  pub course : waiting_course turns job0 waiting by e ≡ going_course left job1 going by (state_in e)

abbrev pub FedTo : FrontEnd → Fed → LoadJob → Waiting → ℕ → Asker → End Reply → Option Bytes → List RawProgram → List Out → LoadJob → Live → Turn → ℕ → Type 0
FedTo front (fed.Goes going) job0 waiting turns by e told programs before job1 live turn budget =
    IsAt (setting told programs before) live turn budget (state_in e) × HasTaken job0 job1 waiting going turns by e budget
FedTo front (fed.Ends a) job0 waiting turns by e told programs before job1 live turn budget = HasEnded front a (waiting_course turns job0 waiting by e) programs told before live turn budget

-- IT TAKES AN ANSWER as it means, where that left less of the budget than there are turns.
abbrev pub Takes : Fed → LoadJob → Waiting → Answer → Option Bytes → Live → LoadJob → Turn → ℕ → Type 0
Takes r job0 waiting a told live job1 turn budget =
    (front : FrontEnd) (programs : List RawProgram) (before : List Out) (by : Asker) (turns : ℕ) (e : End Reply)
    → IsEndAt (setting told programs before) a live turn budget e → budget < turns → FedTo front r job0 waiting turns by e told programs before job1 live turn budget

-- Beginning

-- A load begins: its price is paid, and it is the innermost under way.
pub record HasBegun (job : LoadJob) (name : List ℕ) (purpose : Purpose) (loads : List Loading) (a : Ask) (budget : ℕ) : Type 0 where
  pub name_is : job.name ≡ name
  pub course : load_call a name (kind_of purpose) ≡ going_course 0 job goings.Simul (under_way (asker_of a) job.name job.nested) (record (state_of a) { budget = budget })

-- or its price cannot be paid
abbrev pub HasSpent : List ℕ → Purpose → Ask → ℕ → Type 0
HasSpent name purpose a budget = (load_call a name (kind_of purpose) ≡ course.Over (Stops (here Spent) (record (state_of a) { budget = 0 }))) × (budget ≡ 0)

abbrev pub BeginsAs : Begun → List ℕ → Purpose → List Loading → Ask → ℕ → Type 0
BeginsAs (begun.Runs job) name purpose loads a budget = HasBegun job name purpose loads a budget
BeginsAs begun.Spent name purpose loads a budget = HasSpent name purpose a budget

-- the price was paid, or nothing is left of the budget
abbrev pub IsPaid : Begun → ℕ → ℕ → Type 0
IsPaid (begun.Runs job) old new = old ≡ new + 1000
IsPaid begun.Spent old new = new ≡ 0
