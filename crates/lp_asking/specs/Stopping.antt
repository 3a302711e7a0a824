-- A stop comes to a function: it goes on at its innermost catch, or it ends.
use Rattle.std.specs.Prelude.{◌≡◌, ℕ, ⊤, List, Option, Some, None}
use Rattle.lp_values.specs.declared.value.Value.{Value}
use Rattle.lp_cells.specs.Cells.{Store}
use Rattle.lp_code.specs.declared.program.FunRow.{FunRow}
use Rattle.lp_code.specs.declared.program.RawProgram.{RawProgram}
use Rattle.lp_code.specs.Programs.{IsFunction}
use Rattle.lp_instr.specs.Sound.{Shapes}
use Rattle.lp_language.specs.Course as course
use Rattle.lp_language.specs.Course.{End, Gives, Stops, State}
use Rattle.lp_isa.specs.Machine.{Moment, Goes, Ended, stopped}
use Rattle.lp_isa.specs.Runs.{Comes}
use Rattle.lp_world.specs.declared.frame.Frame.{Frame}
use Rattle.lp_world.specs.declared.live.Live.{Live}
use Rattle.lp_world.specs.Matches.{Around, Matches}
use Rattle.lp_step.specs.Steps.{IsFit}
use Rattle.lp_step.specs.declared.next.Next.TheVariants as nexts
use Rattle.lp_run.specs.Running.{IsOf, Runs}
use Rattle.lp_run.specs.Kept.{Later}
use Rattle.lp_run.specs.Runs.{Came}
use Rattle.lp_asking.specs.declared.advance.Halt.{Halt}
use Rattle.lp_asking.specs.declared.advance.Halt.TheVariants as halts
use Rattle.lp_asking.specs.declared.ending.Ending.{Ending}
use Rattle.lp_asking.specs.declared.ending.Ending.TheVariants as endings
use Rattle.lp_asking.specs.declared.ending.Stop.{Stop}
use Rattle.lp_asking.specs.Endings.{IsEndingThere, cause_of}

-- where it is caught the frame matches the moment at the catch; else the function ends with it
abbrev pub StopsAt : Option Stop → Stop → Around → Live → List Value → List Value → Frame → ℕ → course.Stop → Moment → Type 0
StopsAt None stop a live stack0 stack1 frame budget x m = (at : Moment) × (stopped x m.catches m.stack m.state ≡ Goes at) × Matches a live stack1 frame budget at
StopsAt (Some s) stop a live stack0 stack1 frame budget x m = (stopped x m.catches m.stack m.state ≡ Ended (Stops x m.state)) × (s ≡ stop) × (stack1 ≡ stack0)

abbrev pub ComesToStop : Option Stop → Stop → List Value → Frame → List Value → Frame → Type 0
ComesToStop r stop stack0 frame0 stack1 frame1 =
    (a : Around) (live : Live) (budget : ℕ) (m : Moment) (x : course.Stop) → cause_of stop.cause ≡ x.cause → Matches a live stack0 frame0 budget m → StopsAt r stop a live stack0 stack1 frame1 budget x m

-- a value or a stop with which a function ends in a state
abbrev pub IsEndIn : Ending → End Value → State → Type 0
IsEndIn (endings.Value v) end s = end ≡ Gives v s
IsEndIn (endings.Stopped stop) end s = (x : course.Stop) × (end ≡ Stops x s) × (cause_of stop.cause ≡ x.cause) × (x.place ≡ None) × (stop.place ≡ None)

-- The machine came by some instructions, and by no question, to the function's end. The state stands for what was at it.
pub record CameToEnd (a : Around) (m : Moment) (e : Ending) (live : Live) (stack : List Value) (budget : ℕ) : Type 0 where
  pub frame : Frame
  pub moment : Moment
  pub matches : Matches a live stack frame budget moment
  pub end : End Value
  pub comes : Comes a.code a.scene (Goes m) (Ended end)
  pub is : IsEndIn e end moment.state
  pub later : Later m.state moment.state
  pub fit : IsFit live stack

-- Instructions were carried out, errors of them caught, until there is something to ask, or the end.
abbrev pub AdvancesTo : Halt → Shapes → Around → Moment → Live → List Value → Frame → ℕ → Type 0
AdvancesTo (halts.Call c) shapes a m live stack frame budget = Came shapes a m (nexts.Call c) live stack frame budget
AdvancesTo (halts.Back c) shapes a m live stack frame budget = Came shapes a m (nexts.Back c) live stack frame budget
AdvancesTo (halts.Ended e) shapes a m live stack frame budget = CameToEnd a m e live stack budget

abbrev pub Advances : Halt → Live → List Value → Frame → ℕ → Live → List Value → Frame → ℕ → Type 0
Advances h live0 stack0 frame0 budget0 live1 stack1 frame1 budget1 =
    (p : RawProgram) (k : ℕ) (row : FunRow) (f : IsFunction p k row) (a : Around) (m : Moment) → IsOf a p row → Runs f.shapes a live0 stack0 frame0 budget0 m → AdvancesTo h f.shapes a m live1 stack1 frame1 budget1

-- what it ended with is there
abbrev pub IsHaltThere : Store → Halt → Type 0
IsHaltThere cells (halts.Call c) = ⊤
IsHaltThere cells (halts.Back c) = ⊤
IsHaltThere cells (halts.Ended e) = IsEndingThere cells e
