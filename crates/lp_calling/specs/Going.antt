-- How jobs go on.
use Rattle.std.specs.Prelude.{◌≡◌, ℕ, ◌-◌, ◌≤◌, ⊤, List, ◌++◌, Bool, Option, IfSome, IsSome, length, take}
use Rattle.lp_values.specs.declared.id.ObjId.{ObjId}
use Rattle.lp_values.specs.declared.value.Value.{Value}
use Rattle.lp_cells.specs.Cells.{Store}
use Rattle.lp_instr.specs.declared.efun.Efun.{Efun}
use Rattle.lp_language.specs.Course.{State, in_any_case}
use Rattle.lp_language.specs.Operations.{living}
use Rattle.lp_meaning.specs.Askers.{Asker}
use Rattle.lp_world.specs.declared.live.Live.{Live}
use Rattle.lp_world.specs.declared.objects.Object.{Object}
use Rattle.lp_world.specs.Rows.{row_at}
use Rattle.lp_efuns.specs.declared.answer.Answer.{Answer}
use Rattle.lp_efuns.specs.declared.caller.Turn.{Turn}
use Rattle.lp_efuns.specs.Plain.{IsAnswerThere}
use Rattle.lp_efuns.specs.Turns.{At, Setting}
use Rattle.lp_calling.specs.declared.job.Job.{Job}
use Rattle.lp_calling.specs.declared.job.Question.{Question}
use Rattle.lp_calling.specs.declared.job.Stage.{Stage}
use Rattle.lp_calling.specs.declared.job.Step.{Step}
use Rattle.lp_calling.specs.declared.job.Step.TheVariants as steps
use Rattle.lp_calling.specs.Beginning.{IsOver, Settled}
use Rattle.lp_calling.specs.Jobs.{IsAsking, IsJobOn, behind, course_of, rest_of, stage_course, stage_rest}
use Rattle.lp_calling.specs.Questions.{IsAskedWith, object_of, question_course}

-- It asks, with the topmost values as arguments; the job's own lie below them and above what lay below the job: from each state
-- for which the live state stands its course asks so, in a state for which the live state stands afterwards and whose world settles
-- from the one before, and goes on with however the question ends. In that state another `this_player()` may be set than before.
pub record HasAsked (q : Question) (n : ℕ) (job0 : Job) (own0 : List Value) (live0 : Live) (turn0 : Turn) (budget0 : ℕ) (job1 : Job) (low stack1 : List Value) (live1 : Live) (turn1 : Turn) (budget1 : ℕ) : Type 0 where
  pub own : List Value
  pub arguments : List Value
  pub stack : stack1 ≡ low ++ own ++ arguments
  pub count : length arguments ≡ n
  pub height : job1.low ≡ job0.low
  pub fits : IsJobOn job1 (low ++ own)
  pub is_asking : IsAsking job1
  pub with_these : IsAskedWith q arguments
  pub course : (g : Setting) (by : Asker) (s : State) → At g live0 turn0 budget0 s
      → (t : State) × Settled s.world g live1 turn1 budget1 t × (course_of job0 own0 by s ≡ in_any_case (question_course q arguments by t) (behind job1 own by))

-- It ends with this answer, and nothing is left of it on the stack: from each such state its course asks nothing and ends so.
pub record HasStopped (a : Answer) (job : Job) (own : List Value) (live0 : Live) (turn0 : Turn) (budget0 : ℕ) (low stack1 : List Value) (live1 : Live) (turn1 : Turn) (budget1 : ℕ) : Type 0 where
  pub stack : stack1 ≡ low
  pub course : (g : Setting) (by : Asker) (s : State) → At g live0 turn0 budget0 s → IsOver a (Settled s.world g live1 turn1 budget1) (course_of job own by s)

abbrev pub GoesTo : Step → Job → List Value → Live → Turn → ℕ → Job → List Value → List Value → Live → Turn → ℕ → Type 0
GoesTo (steps.Ends a) job0 own live0 turn0 budget0 job1 low stack1 live1 turn1 budget1 = HasStopped a job0 own live0 turn0 budget0 low stack1 live1 turn1 budget1
GoesTo (steps.Asks q n) job0 own live0 turn0 budget0 job1 low stack1 live1 turn1 budget1 = HasAsked q n job0 own live0 turn0 budget0 job1 low stack1 live1 turn1 budget1

-- A job goes on as it means.
abbrev pub Goes : Step → Job → Live → Turn → List Value → ℕ → Job → Live → Turn → List Value → ℕ → Type 0
Goes r job0 live0 turn0 stack0 budget0 job1 live1 turn1 stack1 budget1 =
    (low own : List Value) → stack0 ≡ low ++ own → length low ≡ job0.low → GoesTo r job0 own live0 turn0 budget0 job1 low stack1 live1 turn1 budget1

-- the same at a stage, which stays
abbrev pub StageGoes : Step → Efun → Stage → ℕ → Live → Turn → List Value → ℕ → Live → Turn → List Value → ℕ → Type 0
StageGoes r e stage below live0 turn0 stack0 budget0 live1 turn1 stack1 budget1 =
    let job : Job = record { efun = e; low = below; stage = stage } in Goes r job live0 turn0 stack0 budget0 job live1 turn1 stack1 budget1

-- Where it asks, so many arguments lie on top, and the job finds its values below them and waits for the answer.
abbrev pub Waits : Step → Job → List Value → Type 0
Waits (steps.Ends a) job stack = Unit {0}
Waits (steps.Asks q n) job stack = (n ≤ length stack) × IsJobOn job (take (length stack - n) stack) × IsAsking job

-- The job took an answer: what followed that is its course now.
pub record HasTaken (job0 : Job) (own0 : List Value) (v : Value) (live : Live) (job1 : Job) (low stack1 : List Value) : Type 0 where
  pub own : List Value
  pub stack : stack1 ≡ low ++ own
  pub height : job1.low ≡ job0.low
  pub course : (g : Setting) (turn : Turn) (budget : ℕ) (by : Asker) (s : State) → At g live turn budget s → rest_of job0 own0 by v s ≡ course_of job1 own by s

abbrev pub Takes : Job → Value → Live → List Value → Job → List Value → Type 0
Takes job0 v live stack0 job1 stack1 = (low own : List Value) → stack0 ≡ low ++ own → length low ≡ job0.low → HasTaken job0 own v live job1 low stack1

-- the same at a stage, where these objects are live
pub record HasStage (stage0 : Stage) (own0 : List Value) (v : Value) (live : ObjId → Bool) (stage1 : Stage) (low stack1 : List Value) : Type 0 where
  pub own : List Value
  pub stack : stack1 ≡ low ++ own
  pub course : (e : Efun) (by : Asker) (s : State) → living s ≡ live → stage_rest e stage0 own0 by v s ≡ stage_course e stage1 own by s

abbrev pub StageTakes : Stage → Value → (ObjId → Bool) → ℕ → List Value → Stage → List Value → Type 0
StageTakes stage0 v live below stack0 stage1 stack1 = (low own : List Value) → stack0 ≡ low ++ own → length low ≡ below → HasStage stage0 own v live stage1 low stack1

-- a value with which it ends is there
abbrev pub IsStepThere : Store → Step → Type 0
IsStepThere cells (steps.Ends a) = IsAnswerThere cells a
IsStepThere cells (steps.Asks q n) = Unit {0}

-- the object that is asked, where one is, has its row
abbrev pub IsAskedThere : List (Option Object) → Step → Type 0
IsAskedThere objects (steps.Ends a) = ⊤
IsAskedThere objects (steps.Asks q n) = IfSome (object_of q) (λ o. IsSome (row_at objects o.0))
