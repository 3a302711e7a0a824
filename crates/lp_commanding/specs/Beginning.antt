-- How commands begin.
use Rattle.std.specs.Prelude.{◌≡◌, ◌∷◌, ⊤, ℕ, List, None}
use Rattle.lp_values.specs.declared.id.ObjId.{ObjId}
use Rattle.lp_cells.specs.Cells.{IsThere, Store}
use Rattle.lp_meaning.specs.MovesAndCommands.{commanding}
use Rattle.lp_world.specs.declared.live.Live.{Live}
use Rattle.lp_efuns.specs.declared.caller.Turn.{Turn}
use Rattle.lp_efuns.specs.Turns.{At, Setting}
use Rattle.lp_language.specs.Course.{State}
use Rattle.lp_commanding.specs.declared.job.Begun.{Begun}
use Rattle.lp_commanding.specs.declared.job.Begun.TheVariants as begun
use Rattle.lp_commanding.specs.Going.{EndsWith, GoesAs, Wanted}
use Rattle.lp_commanding.specs.Jobs.{course_of}

-- a living object carries out a line
abbrev pub carrying_out : ObjId → List ℕ → Wanted
carrying_out o line by s = commanding by o line s

-- It ends so, or its course is that of a job, whose command was pushed.
abbrev pub Begins : Begun → ObjId → List ℕ → Live → Turn → Turn → Type 0
Begins (begun.Ends v) o line live turn0 turn1 = EndsWith v (carrying_out o line) live turn0 live turn1
Begins (begun.Runs job) o line live turn0 turn1 = GoesAs (carrying_out o line) (course_of job) live turn0 live turn1

-- a value with which it ends is there
abbrev pub IsBegunThere : Store → Begun → Type 0
IsBegunThere cells (begun.Ends v) = IsThere cells v
IsBegunThere cells (begun.Runs job) = ⊤

-- A command with this verb was pushed: the live state stands for the state with it as the innermost.
abbrev pub Pushes : List ℕ → Turn → Turn → Type 0
Pushes verb turn0 turn1 =
    (g : Setting) (live : Live) (budget : ℕ) (s : State) → At g live turn0 budget s → At g live turn1 budget (record s { commands = record { verb = verb; fail = None } ∷ s.commands })

-- The same player and the same commands.
pub record IsSameTurn (old new : Turn) : Type 0 where
  pub player : new.player ≡ old.player
  pub commands : new.commands.items ≡ old.commands.items
