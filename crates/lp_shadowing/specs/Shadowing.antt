-- The efun `shadow` begins, for which programs come into memory.
use Rattle.std.specs.Prelude.{◌≡◌, ◌≤◌, ℕ, ◌||◌, List, [], ◌∷◌, ◌++◌, Bool, not, length, codes, Option, if◌then◌else◌}
use Rattle.lp_values.specs.declared.id.ObjId.{ObjId}
use Rattle.lp_values.specs.declared.value.Value.{Value}
use Rattle.lp_values.specs.declared.value.Value.TheVariants.{Obj}
use Rattle.lp_code.specs.declared.program.RawProgram.{RawProgram}
use Rattle.lp_swapfile.specs.Device.{Bytes}
use Rattle.lp_instr.specs.declared.efun.Efun.TheVariants as efuns
use Rattle.lp_language.specs.World.{World}
use Rattle.lp_language.specs.Course.{Course, Scene, State, and_then, gives, zero_value}
use Rattle.lp_meaning.specs.Askers.{Asker}
use Rattle.lp_meaning.specs.CallingEfuns.{masks, may_begin, shadow_answered}
use Rattle.lp_meaning.specs.EfunArguments.{object_arg, opened_args}
use Rattle.lp_meaning.specs.FileLoads.{master_call}
use Rattle.lp_meaning.specs.WorldSteps.{version_of_object}
use Rattle.lp_world.specs.declared.live.Live.{Live}
use Rattle.lp_world.specs.Stands.{Stands}
use Rattle.lp_targets.specs.Callees.{IsWorldOf}
use Rattle.lp_efuns.specs.declared.answer.Answer.{Answer}
use Rattle.lp_efuns.specs.declared.caller.Caller.{Caller}
use Rattle.lp_efuns.specs.declared.caller.Turn.{Turn}
use Rattle.lp_efuns.specs.Turns.{At, IsScene, Setting}
use Rattle.lp_calling.specs.declared.job.Begun.{Begun}
use Rattle.lp_calling.specs.declared.job.Begun.TheVariants as begun
use Rattle.lp_calling.specs.declared.job.Job.{Job}
use Rattle.lp_calling.specs.Beginning.{IsOver, Settled, Wanted, acts, whole}
use Rattle.lp_calling.specs.Jobs.{IsJobOn, course_of, ended}

-- What stands in the way

-- the nomask functions of an object, or the pragma of its program, stand in the way of a shadow of it
abbrev pub is_forbidden : World → ObjId → ObjId → Bool
is_forbidden w this o = masks w this o || (version_of_object w o).pragmas.no_shadow

-- so do the places and the chains
abbrev pub is_barred : World → ObjId → ObjId → Bool
is_barred w this o = not (may_begin w this o) || masks w this o || (version_of_object w o).pragmas.no_shadow

-- it is so in each world for which the state stands, with what the swap file tells, and whose programs fit
abbrev pub IsForbidden : Bool → Option Bytes → Live → ObjId → ObjId → Type 0
IsForbidden b told live this o = (programs : List RawProgram) (w : World) → IsWorldOf told programs live w → b ≡ is_forbidden w this o

abbrev pub IsBarred : Bool → Option Bytes → Live → ObjId → ObjId → Type 0
IsBarred b told live this o = (programs : List RawProgram) (w : World) → IsWorldOf told programs live w → b ≡ is_barred w this o

-- a state stands, with what a swap file tells, for each world for which another one did
abbrev pub StandsOver : Option Bytes → Live → Option Bytes → Live → Type 0
StandsOver told0 live0 told1 live1 = (programs : List RawProgram) (w : World) → Stands told0 programs live0 w → Stands told1 programs live1 w

-- How it begins

-- It goes on as a job, whose values lie above what lay below the arguments: from each state for which the live state stands, with what the
-- swap file told, and whose programs fit, the course wanted is that of the job, in a state for which the live state stands afterwards, with this
-- budget, and whose world settles from the one before.
pub record HasBegunOver (job : Job) (wanted : Wanted) (caller : Caller) (told : Option Bytes) (live0 live1 : Live) (turn : Turn) (budget0 : ℕ) (low stack1 : List Value) (budget1 : ℕ) : Type 0 where
  pub own : List Value
  pub stack : stack1 ≡ low ++ own
  pub height : length low ≡ job.low
  pub fits : IsJobOn job stack1
  pub course : (g : Setting) (by : Asker) (c : Scene) (s : State) → g.told ≡ told → IsScene caller c → At g live0 turn budget0 s → IsWorldOf told g.programs live0 s.world
      → (t : State) × Settled s.world g live1 turn budget1 t × (wanted by c s ≡ course_of job own by t)

-- It ends with this answer, and its arguments are gone: from each such state the course wanted asks nothing and ends so.
pub record HasEndedOver (a : Answer) (wanted : Wanted) (caller : Caller) (told : Option Bytes) (live0 live1 : Live) (turn : Turn) (budget0 : ℕ) (low stack1 : List Value) (budget1 : ℕ) : Type 0 where
  pub stack : stack1 ≡ low
  pub course : (g : Setting) (by : Asker) (c : Scene) (s : State) → g.told ≡ told → IsScene caller c → At g live0 turn budget0 s → IsWorldOf told g.programs live0 s.world
      → IsOver a (Settled s.world g live1 turn budget1) (wanted by c s)

abbrev pub BeginsOver : Begun → Wanted → Caller → Option Bytes → Live → Live → Turn → ℕ → List Value → List Value → ℕ → Type 0
BeginsOver (begun.Ends a) wanted caller told live0 live1 turn budget0 low stack1 budget1 = HasEndedOver a wanted caller told live0 live1 turn budget0 low stack1 budget1
BeginsOver (begun.Runs job) wanted caller told live0 live1 turn budget0 low stack1 budget1 = HasBegunOver job wanted caller told live0 live1 turn budget0 low stack1 budget1

-- In each state for which the live state stands the first argument is this live object, or none.
abbrev pub NamesObject : Live → List Value → Option ObjId → Type 0
NamesObject live vs o = (g : Setting) (turn : Turn) (budget : ℕ) (s : State) → At g live turn budget s → object_arg (opened_args s vs) 0 ≡ o

-- a shadow, by whether something stands in the way
abbrev pub shadow_by : Bool → Asker → ObjId → ObjId → State → Course Value
shadow_by barred by this o s =
    if barred then gives zero_value s else and_then (master_call by (codes "query_allow_shadow") (Obj o ∷ []) s) (λ v s. shadow_answered this o v s)

-- it goes on as a job for that, from each state for which the live state stands
pub record IsJobFor (r : Begun) (live : Live) (low : ℕ) (this o : ObjId) (barred : Bool) : Type 0 where
  pub job : Job
  pub is : r ≡ begun.Runs job
  pub height : job.low ≡ low
  pub fits : (stack : List Value) → low ≤ length stack → IsJobOn job stack
  pub course : (g : Setting) (turn : Turn) (budget : ℕ) (by : Asker) (s : State) (own : List Value) → At g live turn budget s → and_then (shadow_by barred by this o s) (ended efuns.Shadow) ≡ course_of job own by s

-- `shadow` begins as it means, whatever the turn.
abbrev pub BeginsShadow : Begun → Caller → Option Bytes → Live → List Value → ℕ → ℕ → Live → List Value → ℕ → Type 0
BeginsShadow r caller told live0 stack0 args budget0 live1 stack1 budget1 =
    (turn : Turn) (low vs : List Value) → stack0 ≡ low ++ vs → length vs ≡ args → BeginsOver r (whole efuns.Shadow vs) caller told live0 live1 turn budget0 low stack1 budget1

-- It acts so, once its arguments are paid and of their kinds. They lie above so many values.
abbrev pub ActsShadow : Begun → Caller → Option Bytes → Live → Live → ℕ → List Value → List Value → Type 0
ActsShadow r caller told live0 live1 below stack0 stack1 =
    (turn : Turn) (budget : ℕ) (low vs : List Value) → stack0 ≡ low ++ vs → length low ≡ below → BeginsOver r (acts efuns.Shadow vs) caller told live0 live1 turn budget low stack1 budget
