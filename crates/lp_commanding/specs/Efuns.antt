-- The efun `command`: an object, as `this_player()`, carries out a line.
use Rattle.std.specs.Prelude.{◌≡◌, ◌++◌, ◌&&◌, [], ⊤, ℕ, Bool, List, Option, Some, IsSome, length}
use Rattle.lp_values.specs.declared.id.ObjId.{ObjId}
use Rattle.lp_values.specs.declared.value.Value.{Value}
use Rattle.lp_cells.specs.Cells.{Store}
use Rattle.lp_instr.specs.declared.efun.Efun.TheVariants as efuns
use Rattle.lp_language.specs.Course.{Command, Course, Scene, State, and_then}
use Rattle.lp_language.specs.World.{is_live}
use Rattle.lp_meaning.specs.Askers.{Asker, ask_value, for_player}
use Rattle.lp_meaning.specs.MovesAndCommands.{is_living}
use Rattle.lp_world.specs.declared.live.Live.{Live}
use Rattle.lp_world.specs.declared.objects.Object.{Object}
use Rattle.lp_world.specs.Rows.{row_at}
use Rattle.lp_efuns.specs.declared.answer.Answer.{Answer}
use Rattle.lp_efuns.specs.declared.caller.Caller.{Caller}
use Rattle.lp_efuns.specs.declared.caller.Turn.{Turn}
use Rattle.lp_efuns.specs.Plain.{IsAnswerThere}
use Rattle.lp_efuns.specs.Turns.{At, IsScene, Setting}
use Rattle.lp_calling.specs.Beginning.{HasEnded, IsOver, Settled, Wanted, acts, whole}
use Rattle.lp_calling.specs.Jobs.{ended}
use Rattle.lp_commanding.specs.declared.job.CommandBegun.{CommandBegun}
use Rattle.lp_commanding.specs.declared.job.CommandBegun.TheVariants as begun
use Rattle.lp_commanding.specs.Going.{IsStillAt}

-- it is asked that an object carries out a line, as `this_player()`
abbrev pub commanded : ObjId → List ℕ → Asker → State → Course Value
commanded o line by s = for_player (Some o) (λ s. ask_value (Command o line) [] by s) s

-- An object carries out a line, whatever then follows is the price of the value: from each state for which the live state stands
-- the course wanted is that, in a state for which the live state stands, with this budget. The arguments are gone.
pub record HasCommanded (o : ObjId) (line : List ℕ) (wanted : Wanted) (caller : Caller) (live : Live) (turn : Turn) (budget0 : ℕ) (low stack1 : List Value) (budget1 : ℕ) : Type 0 where
  pub stack : stack1 ≡ low
  pub this : o ≡ caller.this
  pub course : (g : Setting) (by : Asker) (c : Scene) (s : State) → IsScene caller c → At g live turn budget0 s
      → (t : State) × IsStillAt s g live turn budget1 t × (wanted by c s ≡ and_then (commanded o line by t) (ended efuns.Command))

abbrev pub BeginsAs : CommandBegun → Wanted → Caller → Live → Turn → ℕ → List Value → List Value → ℕ → Type 0
BeginsAs (begun.Ends a) wanted caller live turn budget0 low stack1 budget1 = HasEnded a wanted caller live turn budget0 low stack1 budget1
BeginsAs (begun.Runs o line) wanted caller live turn budget0 low stack1 budget1 = HasCommanded o line wanted caller live turn budget0 low stack1 budget1

-- THE EFUN BEGINS as it means, whatever the turn.
abbrev pub BeginsCommand : CommandBegun → Caller → Live → List Value → ℕ → ℕ → List Value → ℕ → Type 0
BeginsCommand r caller live stack0 args budget0 stack1 budget1 =
    (turn : Turn) (low vs : List Value) → stack0 ≡ low ++ vs → length vs ≡ args → BeginsAs r (whole efuns.Command vs) caller live turn budget0 low stack1 budget1

-- It acts so, once its arguments are paid and of their kinds. They lie above so many values.
abbrev pub ActsCommand : CommandBegun → Caller → Live → ℕ → List Value → ℕ → List Value → ℕ → Type 0
ActsCommand r caller live below stack0 budget0 stack1 budget1 =
    (turn : Turn) (low vs : List Value) → stack0 ≡ low ++ vs → length low ≡ below → BeginsAs r (acts efuns.Command vs) caller live turn budget0 low stack1 budget1

-- whether an object is live and living, in each state for which the live state stands
abbrev pub CanCommand : Bool → Live → ObjId → Type 0
CanCommand is live o = (g : Setting) (turn : Turn) (budget : ℕ) (s : State) → At g live turn budget s → is ≡ is_live s.world o && is_living s.world o

-- THE PRICE OF ITS VALUE is paid: from each state for which the live state stands the efun is over so.
abbrev pub EndsCommand : Answer → Value → Live → ℕ → ℕ → Type 0
EndsCommand a v live budget0 budget1 =
    (g : Setting) (turn : Turn) (s : State) → At g live turn budget0 s → IsOver a (Settled s.world g live turn budget1) (ended efuns.Command v s)

-- a value with which it ends is there
abbrev pub IsBegunThere : Store → CommandBegun → Type 0
IsBegunThere cells (begun.Ends a) = IsAnswerThere cells a
IsBegunThere cells (begun.Runs o line) = ⊤

-- the object that carries out a line has its row
abbrev pub IsBegunReady : List (Option Object) → CommandBegun → Type 0
IsBegunReady objects (begun.Ends a) = ⊤
IsBegunReady objects (begun.Runs o line) = IsSome (row_at objects o.0)
