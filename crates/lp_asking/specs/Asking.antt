-- Who asks, and what, on the state.
use Rattle.std.specs.Prelude.{◌≡◌, ◌+◌, ℕ, List, [], Option, Some, None, map, reverse, slice_get}
use Rattle.lp_values.specs.declared.id.ProgId.{ProgId}
use Rattle.lp_code.specs.declared.program.RawProgram.{RawProgram}
use Rattle.lp_code.specs.declared.tables.Slot.{Slot}
use Rattle.lp_code.specs.Programs.{code_of}
use Rattle.lp_instr.specs.Code.{Code, parent_row}
use Rattle.lp_language.specs.Course as course
use Rattle.lp_language.specs.Course.{Ask, Asked, Internal, Parent}
use Rattle.lp_meaning.specs.FunctionCalls.{depth_behind}
use Rattle.lp_efuns.specs.Turns.{commands_of}
use Rattle.lp_step.specs.declared.next.Target.{Target}
use Rattle.lp_step.specs.declared.next.Target.TheVariants as targets
use Rattle.lp_asking.specs.declared.asker.Asker.{Asker}
use Rattle.lp_asking.specs.declared.asker.Loading.{Loading}
use Rattle.lp_asking.specs.declared.question.Question.{Question}
use Rattle.lp_asking.specs.declared.question.Question.TheVariants as questions

-- loads under way, as the meaning has them
abbrev pub loading_of : Loading → course.Loading
loading_of l = record { name = l.name; nested = l.nested }

-- The state has the player, the commands, what was handed down, and the depth of who asks. It has the innermost command and
-- load last, and the latest caller.
pub record IsBy (asker : Asker) (a : Ask) : Type 0 where
  pub player : a.player ≡ asker.turn.player
  pub commands : a.commands ≡ commands_of asker.turn.commands.items
  pub interactive : a.interactive ≡ asker.interactive
  pub loads : a.loads ≡ map loading_of (reverse asker.loads.items)
  pub depth : depth_behind a.scene ≡ asker.depth + 1

-- the names in the table of a program, and in those of its parents, by their numbers
abbrev pub names_in : Option RawProgram → List (List ℕ)
names_in None = []
names_in (Some p) = map (λ (s : Slot). s.name) p.tables.slots

abbrev pub rows_in : List RawProgram → RawProgram → List (List (List ℕ))
rows_in programs p = map (λ (v : ProgId). names_in (slice_get programs v.0)) p.tables.parents

-- the code of a program
abbrev pub code_in : List RawProgram → RawProgram → Code
code_in programs p = code_of p (rows_in programs p)

-- what a call asks in the object that runs
abbrev pub question_of : Target → Option Question
question_of (targets.Slot k) = Some (questions.Internal k)
question_of (targets.Fixed j k) = Some (questions.Parent j k)
question_of targets.Other = None
question_of (targets.Simul k) = None

-- rows of the program that asks mean their names
abbrev pub Means : Code → Question → Asked → Type 0
Means code (questions.Internal k) what = (name : List ℕ) × (slice_get code.rows k ≡ Some name) × (what ≡ Internal name)
Means code (questions.Parent j k) what = (name : List ℕ) × (parent_row code j k ≡ Some name) × (what ≡ Parent j name)
