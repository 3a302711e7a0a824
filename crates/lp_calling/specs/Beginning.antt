-- How efuns that call LPC begin.
use Rattle.std.specs.Prelude.{◌≡◌, ℕ, ⊤, List, ◌++◌, Bool, true, false, length, Option}
use Rattle.lp_values.specs.declared.value.Value.{Value}
use Rattle.lp_cells.specs.Cells.{Store}
use Rattle.lp_instr.specs.declared.efun.Efun.{Efun}
use Rattle.lp_instr.specs.declared.efun.Efun.TheVariants as efuns
use Rattle.lp_language.specs.World.{World}
use Rattle.lp_language.specs.Course.{Course, End, Over, Scene, State}
use Rattle.lp_meaning.specs.Askers.{Asker}
use Rattle.lp_meaning.specs.EfunArguments.{opened_args}
use Rattle.lp_meaning.specs.Questions.{acting, efun_in, group}
use Rattle.lp_world.specs.declared.live.Live.{Live}
use Rattle.lp_world.specs.declared.objects.Object.{Object}
use Rattle.lp_settling.specs.Settling.{Settles}
use Rattle.lp_efuns.specs.declared.answer.Answer.{Answer}
use Rattle.lp_efuns.specs.declared.caller.Caller.{Caller}
use Rattle.lp_efuns.specs.declared.caller.Turn.{Turn}
use Rattle.lp_efuns.specs.Plain.{IsAnswerThere, IsEnd}
use Rattle.lp_efuns.specs.Turns.{At, IsScene, Setting}
use Rattle.lp_calling.specs.declared.job.Begun.{Begun}
use Rattle.lp_calling.specs.declared.job.Begun.TheVariants as begun
use Rattle.lp_calling.specs.declared.job.Job.{Job}
use Rattle.lp_calling.specs.Jobs.{IsJobOn, IsReady, course_of}

-- the efuns that are carried out here
abbrev pub is_calling : Efun → Bool
is_calling efuns.CallOther = true
is_calling efuns.LoadObject = true
is_calling efuns.MoveObject = true
is_calling efuns.Filter = true
is_calling efuns.Map = true
is_calling efuns.TellObject = true
is_calling efuns.Write = true
is_calling efuns.Printf = true
is_calling efuns.TellRoom = true
is_calling efuns.Say = true
is_calling efuns.Present = true
is_calling efuns.ReadFile = true
is_calling efuns.FileSize = true
is_calling efuns.WriteFile = true
is_calling efuns.Rm = true
is_calling efuns.SaveObject = true
is_calling efuns.RestoreObject = true
is_calling _ = false

-- The live state stands for a state, whose world settles from this one.
pub record Settled (w : World) (g : Setting) (live : Live) (turn : Turn) (budget : ℕ) (t : State) : Type 0 where
  pub at : At g live turn budget t
  pub settles : Settles w t.world

-- a course is over, with this answer, in a state of which something holds
abbrev pub IsOver : Answer → (State → Type 0) → Course Value → Type 0
IsOver a P c = (end : End Value) × (c ≡ Over end) × IsEnd a P end

-- what a caller may ask for: a course for each who asks, each function and each state
abbrev pub Wanted : Type 0
Wanted = Asker → Scene → State → Course Value

-- a whole call of an efun, and what it does once its arguments are paid and of their kinds
abbrev pub whole : Efun → List Value → Wanted
whole e vs by c s = efun_in e by c vs s

abbrev pub acts : Efun → List Value → Wanted
acts e vs by c s = acting (group e) e by c vs (opened_args s vs) s

-- It goes on as a job, whose values lie above what lay below the arguments: from each state for which the live state stands the
-- course wanted is that of the job, in a state for which the live state stands, with this budget, and whose world settles from
-- the one before.
pub record HasBegun (job : Job) (wanted : Wanted) (caller : Caller) (live : Live) (turn : Turn) (budget0 : ℕ) (low stack1 : List Value) (budget1 : ℕ) : Type 0 where
  pub own : List Value
  pub stack : stack1 ≡ low ++ own
  pub height : length low ≡ job.low
  pub fits : IsJobOn job stack1
  pub course : (g : Setting) (by : Asker) (c : Scene) (s : State) → IsScene caller c → At g live turn budget0 s → (t : State) × Settled s.world g live turn budget1 t × (wanted by c s ≡ course_of job own by t)

-- It ends with this answer, and its arguments are gone: from each such state the course wanted asks nothing and ends so.
pub record HasEnded (a : Answer) (wanted : Wanted) (caller : Caller) (live : Live) (turn : Turn) (budget0 : ℕ) (low stack1 : List Value) (budget1 : ℕ) : Type 0 where
  pub stack : stack1 ≡ low
  pub course : (g : Setting) (by : Asker) (c : Scene) (s : State) → IsScene caller c → At g live turn budget0 s → IsOver a (Settled s.world g live turn budget1) (wanted by c s)

abbrev pub BeginsAs : Begun → Wanted → Caller → Live → Turn → ℕ → List Value → List Value → ℕ → Type 0
BeginsAs (begun.Ends a) wanted caller live turn budget0 low stack1 budget1 = HasEnded a wanted caller live turn budget0 low stack1 budget1
BeginsAs (begun.Runs job) wanted caller live turn budget0 low stack1 budget1 = HasBegun job wanted caller live turn budget0 low stack1 budget1

-- An efun begins as it means, whatever the turn.
abbrev pub Begins : Begun → Efun → Caller → Live → List Value → ℕ → ℕ → List Value → ℕ → Type 0
Begins r e caller live stack0 args budget0 stack1 budget1 =
    (turn : Turn) (low vs : List Value) → stack0 ≡ low ++ vs → length vs ≡ args → BeginsAs r (whole e vs) caller live turn budget0 low stack1 budget1

-- It acts so, once its arguments are paid and of their kinds. They lie above so many values.
abbrev pub Starts : Begun → Efun → Caller → Live → ℕ → List Value → List Value → Type 0
Starts r e caller live below stack0 stack1 =
    (turn : Turn) (budget : ℕ) (low vs : List Value) → stack0 ≡ low ++ vs → length low ≡ below → BeginsAs r (acts e vs) caller live turn budget low stack1 budget

-- a value with which it ends is there
abbrev pub IsBegunThere : Store → Begun → Type 0
IsBegunThere cells (begun.Ends a) = IsAnswerThere cells a
IsBegunThere cells (begun.Runs job) = Unit {0}

-- the object that a job calls by a name next has its row
abbrev pub IsBegunReady : List (Option Object) → Begun → Type 0
IsBegunReady objects (begun.Ends a) = ⊤
IsBegunReady objects (begun.Runs job) = IsReady objects job
