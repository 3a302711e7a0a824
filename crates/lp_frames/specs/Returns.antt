-- How a function is left, and how its caller goes on.
use Rattle.std.specs.Prelude.{◌≡◌, ℕ, ◌++◌, Bool, true, false, ⊤, List, ◌∷◌, Some, length, slice_get}
use Rattle.lp_values.specs.declared.value.Value.{Value}
use Rattle.lp_cells.specs.Cells.{IsThere}
use Rattle.lp_code.specs.declared.program.FunRow.{FunRow}
use Rattle.lp_code.specs.declared.program.RawProgram.{RawProgram}
use Rattle.lp_instr.specs.Sound.{Shapes}
use Rattle.lp_language.specs.Course.{Asked, End, Gives, Stops, Plain, Reply, State, Stop, after, caught, end_of_outcome, outcome_of}
use Rattle.lp_isa.specs.Machine.{Moment, Next, Goes, awaits, push_end}
use Rattle.lp_isa.specs.SoundCode.{NextMatches}
use Rattle.lp_world.specs.declared.frame.Frame.{Frame}
use Rattle.lp_world.specs.declared.live.Live.{Live}
use Rattle.lp_world.specs.Matches.{Around, Matches, Sits}
use Rattle.lp_step.specs.Steps.{IsFit}
use Rattle.lp_run.specs.Running.{IsHome, IsOf, Runs}
use Rattle.lp_run.specs.Catches.{CatchesAt}

-- The caller of a function waits for it at a moment, with these operands left. Below the function lie the caller's locals and
-- these operands, and above them so many that the call took besides its arguments. The outputs before the function began are
-- those of the caller, and the caller's program is still there.
pub record Waits (outer inner : Around) (under : ℕ) (caller : Frame) (m : Moment) (rest : List Value) : Type 0 where
  pub low : List Value
  pub taken : List Value
  pub below : inner.below ≡ low ++ taken
  pub count : length taken ≡ under
  pub sits : Sits outer low caller (record m { stack = rest })
  pub outputs : inner.before ≡ outer.before ++ m.state.outputs
  pub there : slice_get inner.programs caller.program.0 ≡ Some caller.code

-- What is around the caller afterwards: what the swap file tells, the programs, `this_player()` and the commands may be others.
abbrev pub back_in : Around → Around → Around
back_in outer inner = record outer { told = inner.told; programs = inner.programs; player = inner.player; commands = inner.commands }

-- the caller's moment with the outcome of an end, before its value is on top
abbrev pub resumed : Moment → List Value → End Reply → Moment
resumed m rest e = record { place = m.place; stack = rest; catches = m.catches; state = after m.state (outcome_of e) }

-- and with the value
abbrev pub valued : Moment → List Value → Value → State → Moment
valued m rest v s = record { place = m.place; stack = v ∷ rest; catches = m.catches; state = after m.state (outcome_of (Gives (Plain v) s)) }

-- an end in this state
abbrev pub IsEndIn : End Reply → State → Type 0
IsEndIn (Gives r s) t = s ≡ t
IsEndIn (Stops x s) t = s ≡ t

-- However a function ended, nothing is left of it, and its caller matches the moment with the outcome.
abbrev pub Cuts : ℕ → List Value → Frame → List Value → Type 0
Cuts under stack0 frame stack1 =
    (outer inner : Around) (live : Live) (budget : ℕ) (caller : Frame) (m end : Moment) (rest : List Value) (e : End Reply)
    → Waits outer inner under caller m rest → Matches inner live stack0 frame budget end → IsEndIn e end.state
    → Matches (back_in outer inner) live stack1 caller budget (resumed m rest e)

-- A function that ended with a value: its caller goes on behind the call with the value on top, as the machine does.
abbrev pub Returns : ℕ → Value → List Value → Frame → List Value → Type 0
Returns under v stack0 frame stack1 =
    (outer inner : Around) (live : Live) (budget : ℕ) (caller : Frame) (m end : Moment) (rest : List Value)
    → Waits outer inner under caller m rest → Matches inner live stack0 frame budget end
    → (push_end (end_of_outcome m.state (outcome_of (Gives (Plain v) end.state))) m.place m.catches rest ≡ Goes (valued m rest v end.state))
    × Matches (back_in outer inner) live stack1 caller budget (valued m rest v end.state)

-- And it runs on, where it ran, the value is there, and its object is still in memory.
abbrev pub RunsOn : ℕ → Value → List Value → Frame → List Value → Type 0
RunsOn under v stack0 frame stack1 =
    (shapes : Shapes) (outer inner : Around) (live : Live) (budget : ℕ) (caller : Frame) (m end : Moment) (rest : List Value) (what : Asked) (xs : List Value)
    → Waits outer inner under caller m rest → Matches inner live stack0 frame budget end
    → NextMatches shapes (awaits what xs outer.scene m.state m.place m.catches rest) → IsFit live stack0 → IsThere live.cells v → IsHome outer live
    → Runs shapes (back_in outer inner) live stack1 caller budget (valued m rest v end.state)

-- A function that ended with a stop whose value may be caught: its caller goes on at its innermost catch, or ends in its turn.
abbrev pub Unwinds : Bool → ℕ → Value → List Value → Frame → List Value → Frame → Frame → Type 0
Unwinds is_caught under v stack0 frame stack1 caller0 caller1 =
    (outer inner : Around) (live : Live) (budget : ℕ) (m end : Moment) (rest : List Value) (x : Stop)
    → caught x.cause ≡ Some v → Waits outer inner under caller0 m rest → Matches inner live stack0 frame budget end
    → CatchesAt is_caught (back_in outer inner) live stack1 caller1 budget x (resumed m rest (Stops x end.state))
    (push_end (end_of_outcome m.state (outcome_of (Stops x end.state))) m.place m.catches rest)

-- where a catch was open, the function runs on
abbrev pub RunsAt : Bool → Shapes → Around → Live → List Value → Frame → ℕ → Next → Type 0
RunsAt true shapes a live stack frame budget next = (at : Moment) × (next ≡ Goes at) × Runs shapes a live stack frame budget at
RunsAt false shapes a live stack frame budget next = ⊤

-- And so the caller does, where it ran, the value is there, and its object is still in memory.
abbrev pub UnwindsOn : Bool → ℕ → Value → List Value → Frame → List Value → Frame → Frame → Type 0
UnwindsOn is_caught under v stack0 frame stack1 caller0 caller1 =
    (shapes : Shapes) (outer inner : Around) (live : Live) (budget : ℕ) (m end : Moment) (rest : List Value) (x : Stop) (what : Asked) (xs : List Value)
    → caught x.cause ≡ Some v → Waits outer inner under caller0 m rest → Matches inner live stack0 frame budget end
    → NextMatches shapes (awaits what xs outer.scene m.state m.place m.catches rest) → IsFit live stack0 → IsThere live.cells v → IsHome outer live
    → RunsAt is_caught shapes (back_in outer inner) live stack1 caller1 budget (push_end (end_of_outcome m.state (outcome_of (Stops x end.state))) m.place m.catches rest)

-- What stays while the caller runs is still that of its row.
abbrev pub StaysOf : Type 0
StaysOf = (outer inner : Around) (under : ℕ) (caller : Frame) (m : Moment) (rest : List Value) (p : RawProgram) (row : FunRow)
    → Waits outer inner under caller m rest → IsOf outer p row → IsOf (back_in outer inner) p row
