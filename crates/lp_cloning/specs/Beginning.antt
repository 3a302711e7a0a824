-- How `clone_object` begins, and how its jobs go on.
use Rattle.std.specs.Prelude.{◌≡◌, ◌++◌, [], ℕ, ⊤, List, Option, None, IsSome, length, if◌then◌else◌}
use Rattle.lp_values.specs.declared.value.Value.{Value}
use Rattle.lp_instr.specs.declared.efun.Efun.TheVariants as efuns
use Rattle.lp_swapfile.specs.Device.{Bytes}
use Rattle.lp_language.specs.World.{version_at}
use Rattle.lp_language.specs.Course.{Course, End, Failed, Over, Reply, Scene, State, and_then, stops}
use Rattle.lp_meaning.specs.Askers.{Asker, ask_reply}
use Rattle.lp_meaning.specs.FileLoads.{clone_name, making, object_reply, with_clone_number}
use Rattle.lp_meaning.specs.WorldSteps.{has_room}
use Rattle.lp_values.specs.declared.id.ProgId.{ProgId}
use Rattle.lp_values.specs.declared.error.ErrorKind.{ErrorKind}
use Rattle.lp_values.specs.declared.error.ErrorKind.TheVariants.{NoClone, TooMany}
use Rattle.lp_values.specs.Errors.{plain}
use Rattle.lp_asking.specs.declared.ending.Cause.TheVariants as causes
use Rattle.lp_asking.specs.declared.ending.Ending.TheVariants as endings
use Rattle.lp_language.specs.Course as course
use Rattle.lp_meaning.specs.Questions.{efun_in}
use Rattle.lp_world.specs.declared.live.Live.{Live}
use Rattle.lp_world.specs.declared.objects.Object.{Object}
use Rattle.lp_world.specs.Rows.{variables_at}
use Rattle.lp_efuns.specs.declared.caller.Turn.{Turn}
use Rattle.lp_efuns.specs.Turns.{Setting}
use Rattle.lp_asking.specs.declared.ending.Ending.{Ending}
use Rattle.lp_beginning.specs.Beginning.{Fits, HasItsParts}
use Rattle.lp_beginning.specs.Ends.{IsValueEnd, state_at}
use Rattle.lp_cloning.specs.declared.job.Answered.{Answered}
use Rattle.lp_cloning.specs.declared.job.Begun.{Begun}
use Rattle.lp_cloning.specs.declared.job.Begun.TheVariants as begun
use Rattle.lp_cloning.specs.declared.job.Cloning.{Cloning}
use Rattle.lp_cloning.specs.declared.job.Cloning.TheVariants as stages
use Rattle.lp_cloning.specs.declared.job.Question.{Question}
use Rattle.lp_cloning.specs.Jobs.{IsLater, IsReply, IsWanted, asked_of, course_of, rest_of, stage_course, stage_rest}

-- what a caller may ask for: a course for each who asks and each state
abbrev pub Asked : Type 0
Asked = Asker → State → Course Value

-- a course is over with this, and the live state stands for the state then
pub record IsOverAt (g : Setting) (live : Live) (turn : Turn) (budget : ℕ) (ending : Ending) (c : Course Value) : Type 0 where
  pub end : End Value
  pub over : c ≡ Over end
  pub is : IsValueEnd g.programs ending end
  pub fits : Fits g live turn budget (state_at end)

-- From each state for which the live state stands the course wanted is this one, in a state for which the live state stands then,
-- and of which this holds.
abbrev pub GoesAs : Asked → Asked → (State → Type 0) → Option Bytes → Live → ℕ → Live → ℕ → Type 0
GoesAs wanted then_ holds told live0 budget0 live1 budget1 =
    (g : Setting) (by : Asker) (turn : Turn) (s : State) → g.told ≡ told → Fits g live0 turn budget0 s → (t : State) × Fits g live1 turn budget1 t × (wanted by s ≡ then_ by t) × holds t

-- a job that has made its object is at its beginning: it has the parts of the object's program that have initialisers
abbrev pub IsAtBeginning : Cloning → State → Type 0
IsAtBeginning (stages.Load name) s = ⊤
IsAtBeginning (stages.Make job) s = HasItsParts s.world job

-- So is a job behind the load of its blueprint; of one behind a question of its object nothing is said.
abbrev pub holds_behind : Cloning → Cloning → State → Type 0
holds_behind (stages.Load name) = IsAtBeginning
holds_behind (stages.Make job) = λ next s. ⊤

-- From each such state it ends so.
abbrev pub EndsAs : Asked → Ending → Option Bytes → Live → ℕ → Live → ℕ → Type 0
EndsAs wanted ending told live0 budget0 live1 budget1 =
    (g : Setting) (by : Asker) (turn : Turn) (s : State) → g.told ≡ told → Fits g live0 turn budget0 s → IsOverAt g live1 turn budget1 ending (wanted by s)

-- a course before the price of its value ends so, or it is that of a job, of which this holds
abbrev pub StartsWith : (Cloning → State → Type 0) → Begun → Asked → Option Bytes → Live → Live → Type 0
StartsWith holds (begun.Ends e) wanted told live0 live1 = (budget : ℕ) → EndsAs wanted e told live0 budget live1 budget
StartsWith holds (begun.Runs job) wanted told live0 live1 = (budget : ℕ) → GoesAs wanted (stage_course job) (holds job) told live0 budget live1 budget

abbrev pub StartsAs : Begun → Asked → Option Bytes → Live → Live → Type 0
StartsAs r wanted told live0 live1 = StartsWith IsAtBeginning r wanted told live0 live1

-- and a whole course
abbrev pub BeginsWith : (Cloning → State → Type 0) → Begun → Asked → Option Bytes → Live → ℕ → Live → ℕ → Type 0
BeginsWith holds (begun.Ends e) wanted told live0 budget0 live1 budget1 = EndsAs wanted e told live0 budget0 live1 budget1
BeginsWith holds (begun.Runs job) wanted told live0 budget0 live1 budget1 = GoesAs wanted (course_of job) (holds job) told live0 budget0 live1 budget1

abbrev pub BeginsAs : Begun → Asked → Option Bytes → Live → ℕ → Live → ℕ → Type 0
BeginsAs r wanted told live0 budget0 live1 budget1 = BeginsWith IsAtBeginning r wanted told live0 budget0 live1 budget1

-- A clone of an object of a version, once it is known which: the pragma is looked at, then the room, and then the number is given.
abbrev pub made_numbered : List ℕ → ProgId → Asked
made_numbered name v by s = and_then (making course.Wanted by (clone_name s.world name) v (record s { world = with_clone_number s.world })) object_reply

abbrev pub made_roomy : List ℕ → ProgId → Asked
made_roomy name v by s = if has_room s.world then made_numbered name v by s else stops (Failed (plain TooMany)) s

abbrev pub made_of : List ℕ → ProgId → Asked
made_of name v by s = if (version_at s.world v).pragmas.no_clone then stops (Failed (plain NoClone)) s else made_roomy name v by s

-- an object of a version and with a name of its own
abbrev pub made_named : List ℕ → ProgId → Asked
made_named name v by s = and_then (making course.Wanted by name v s) object_reply

-- an error, or any other end
abbrev pub fails : ErrorKind → Asked
fails kind by s = stops (Failed (plain kind)) s

-- it ends with an error of this kind
abbrev pub IsError : ErrorKind → Begun → Type 0
IsError kind (begun.Ends e) = e ≡ endings.Stopped (record { cause = causes.Failed (plain kind); place = None })
IsError kind (begun.Runs job) = ⊥

-- the efun with these arguments, called by whatever function
abbrev pub Begins : Begun → Option Bytes → Live → List Value → ℕ → ℕ → Live → List Value → ℕ → Type 0
Begins r told live0 stack0 args budget0 live1 stack1 budget1 =
    (c : Scene) (low vs : List Value) → stack0 ≡ low ++ vs → length vs ≡ args → (stack1 ≡ low) × BeginsAs r (λ by s. efun_in efuns.CloneObject by c vs s) told live0 budget0 live1 budget1

-- a job that runs makes its object for LPC, and has it in memory
abbrev pub IsHome : List (Option Object) → Cloning → Type 0
IsHome objects (stages.Load name) = ⊤
IsHome objects (stages.Make job) = IsSome (variables_at objects job.object)

abbrev pub IsReady : List (Option Object) → Begun → Type 0
IsReady objects (begun.Ends e) = ⊤
IsReady objects (begun.Runs job) = IsWanted job × IsHome objects job

-- A job asks this, and goes on with the reply.
abbrev pub AsksNext : Cloning → Question → Type 0
AsksNext job q = (by : Asker) (s : State) → course_of job by s ≡ and_then (ask_reply (asked_of q) [] by s) (rest_of job by)

-- Behind a reply it goes on as this job, or it ends, before the price of the value and with it.
abbrev pub Continues : Begun → Cloning → Answered → Option Bytes → Live → Live → Type 0
Continues f job answer told live0 live1 = (r : Reply) → IsReply answer r → StartsWith (holds_behind job) f (λ by s. stage_rest job by r s) told live0 live1

abbrev pub Feeds : Begun → Cloning → Answered → Option Bytes → Live → Live → Type 0
Feeds f job answer told live0 live1 = (budget : ℕ) (r : Reply) → IsReply answer r → BeginsWith (holds_behind job) f (λ by s. rest_of job by r s) told live0 budget live1 budget

-- with fewer questions left
abbrev pub LeavesLess : Begun → Cloning → Type 0
LeavesLess (begun.Ends e) job = ⊤
LeavesLess (begun.Runs next) job = IsLater job next
