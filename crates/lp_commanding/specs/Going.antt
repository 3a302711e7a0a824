-- How commands go on.
use Rattle.std.specs.Prelude.{◌≡◌, ◌++◌, ◌∷◌, ◌<◌, [], ⊤, ℕ, List, Option, IsSome, drop}
use Rattle.lp_values.specs.declared.value.Value.{Value}
use Rattle.lp_cells.specs.Cells.{IsThere, Store}
use Rattle.lp_language.specs.Course.{Course, Gives, Over, State, in_any_case}
use Rattle.lp_meaning.specs.Askers.{Asker}
use Rattle.lp_world.specs.declared.live.Live.{Live}
use Rattle.lp_world.specs.declared.objects.Object.{Object}
use Rattle.lp_world.specs.Rows.{row_at}
use Rattle.lp_efuns.specs.declared.caller.Turn.{Turn}
use Rattle.lp_efuns.specs.Turns.{At, Setting}
use Rattle.lp_calling.specs.Beginning.{Settled}
use Rattle.lp_commanding.specs.declared.job.Commanding.{Commanding}
use Rattle.lp_commanding.specs.declared.job.Fed.{Fed}
use Rattle.lp_commanding.specs.declared.job.Fed.TheVariants as fed
use Rattle.lp_commanding.specs.declared.job.Question.{Question}
use Rattle.lp_commanding.specs.declared.job.Step.{Step}
use Rattle.lp_commanding.specs.declared.job.Step.TheVariants as steps
use Rattle.lp_commanding.specs.Jobs.{IsAsking, behind, course_of, object_of, question_course, questions_left, rest_of}

-- what a caller may ask for: a course for each who asks and each state
abbrev pub Wanted : Type 0
Wanted = Asker → State → Course Value

-- The live state stands for a state with the world of another one.
pub record IsStillAt (s : State) (g : Setting) (live : Live) (turn : Turn) (budget : ℕ) (t : State) : Type 0 where
  pub settled : Settled s.world g live turn budget t
  pub world : t.world ≡ s.world

-- From each state for which the live state stands, whatever its budget, the course wanted is this one, in a state with the same
-- world for which the live state stands then, with the same budget.
abbrev pub GoesAs : Wanted → Wanted → Live → Turn → Live → Turn → Type 0
GoesAs wanted then_ live0 turn0 live1 turn1 =
    (g : Setting) (budget : ℕ) (by : Asker) (s : State) → At g live0 turn0 budget s → (t : State) × IsStillAt s g live1 turn1 budget t × (wanted by s ≡ then_ by t)

-- it asks nothing, and ends with this value
abbrev pub over_with : Value → Wanted
over_with v by s = Over (Gives v s)

abbrev pub EndsWith : Value → Wanted → Live → Turn → Live → Turn → Type 0
EndsWith v wanted live0 turn0 live1 turn1 = GoesAs wanted (over_with v) live0 turn0 live1 turn1

-- A command asks this with an argument, and goes on with however the question ends.
abbrev pub asks_this : Question → Value → Commanding → Wanted
asks_this q argument job by s = in_any_case (question_course q argument by s) (behind job by)

-- It asks, with one argument on top of what lay on the stack, and its course asks so.
pub record HasAsked (q : Question) (job0 : Commanding) (live0 : Live) (turn0 : Turn) (stack0 : List Value) (job1 : Commanding) (live1 : Live) (turn1 : Turn) (stack1 : List Value) : Type 0 where
  pub argument : Value
  pub stack : stack1 ≡ stack0 ++ argument ∷ []
  pub is_asking : IsAsking job1
  pub course : GoesAs (course_of job0) (asks_this q argument job1) live0 turn0 live1 turn1

-- It ends with this value, as its course does, with the command popped; on the stack nothing changed.
pub record HasStopped (v : Value) (job : Commanding) (live0 : Live) (turn0 : Turn) (stack0 : List Value) (live1 : Live) (turn1 : Turn) (stack1 : List Value) : Type 0 where
  pub stack : stack1 ≡ stack0
  pub course : EndsWith v (course_of job) live0 turn0 live1 turn1

-- A command goes on as it means.
abbrev pub Goes : Step → Commanding → Live → Turn → List Value → Commanding → Live → Turn → List Value → Type 0
Goes (steps.Ends v) job0 live0 turn0 stack0 job1 live1 turn1 stack1 = HasStopped v job0 live0 turn0 stack0 live1 turn1 stack1
Goes (steps.Asks q) job0 live0 turn0 stack0 job1 live1 turn1 stack1 = HasAsked q job0 live0 turn0 stack0 job1 live1 turn1 stack1

-- the object that is asked has its row
abbrev pub IsAskedThere : List (Option Object) → Step → Type 0
IsAskedThere objects (steps.Ends v) = ⊤
IsAskedThere objects (steps.Asks q) = IsSome (row_at objects (object_of q).0)

-- a value with which it ends is there
abbrev pub IsStepThere : Store → Step → Type 0
IsStepThere cells (steps.Ends v) = IsThere cells v
IsStepThere cells (steps.Asks q) = ⊤

-- Answers

-- What followed an answer is the course of the command now, or it ends, with the command popped.
abbrev pub Takes : Fed → Commanding → Value → Live → Turn → Commanding → Turn → Type 0
Takes fed.Goes job0 v live turn0 job1 turn1 = GoesAs (λ by s. rest_of job0 by v s) (course_of job1) live turn0 live turn1
Takes (fed.Ends w) job0 v live turn0 job1 turn1 = EndsWith w (λ by s. rest_of job0 by v s) live turn0 live turn1

-- where it goes on it has fewer questions left
abbrev pub LeavesLess : Fed → Commanding → Commanding → Type 0
LeavesLess fed.Goes job0 job1 = questions_left job1 < questions_left job0
LeavesLess (fed.Ends w) job0 job1 = ⊤

abbrev pub IsFedThere : Store → Fed → Type 0
IsFedThere cells fed.Goes = ⊤
IsFedThere cells (fed.Ends w) = IsThere cells w

-- The innermost command was popped: the live state stands for the state without it.
abbrev pub IsPopped : Turn → Turn → Type 0
IsPopped turn0 turn1 = (g : Setting) (live : Live) (budget : ℕ) (s : State) → At g live turn0 budget s → At g live turn1 budget (record s { commands = drop 1 s.commands })
