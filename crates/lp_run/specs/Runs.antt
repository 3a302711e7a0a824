-- A function of a sound program runs: instructions one after another.
use Rattle.std.specs.Prelude.{ℕ, suc, ⊤, List, map}
use Rattle.lp_values.specs.declared.value.Value.{Value}
use Rattle.lp_code.specs.declared.program.FunRow.{FunRow}
use Rattle.lp_code.specs.declared.program.RawProgram.{RawProgram}
use Rattle.lp_code.specs.Programs.{IsFunction}
use Rattle.lp_instr.specs.Code.{Catching}
use Rattle.lp_instr.specs.Sound.{Shapes}
use Rattle.lp_isa.specs.Machine.{Moment, Goes}
use Rattle.lp_isa.specs.Runs.{Comes}
use Rattle.lp_isa.specs.SoundCode.{NextMatches}
use Rattle.lp_isa.specs.Work.{NextLess, work, work_of}
use Rattle.lp_world.specs.declared.frame.Catch.{Catch}
use Rattle.lp_world.specs.declared.frame.Frame.{Frame}
use Rattle.lp_world.specs.declared.live.Live.{Live}
use Rattle.lp_world.specs.Matches.{Around, Matches}
use Rattle.lp_step.specs.declared.next.Next.{Next as Led}
use Rattle.lp_step.specs.declared.next.Next.TheVariants as nexts
use Rattle.lp_step.specs.Steps.{IsFit, told as told_by}
use Rattle.lp_step_laws.specs.Running.{IsHome, IsOf, Leaves, Runs}
use Rattle.lp_run.specs.Kept.{Later}

-- In some world a function of a sound program runs so.
pub record CanRun (live : Live) (stack : List Value) (frame : Frame) (budget : ℕ) : Type 0 where
  pub p : RawProgram
  pub k : ℕ
  pub row : FunRow
  pub function : IsFunction p k row
  pub around : Around
  pub moment : Moment
  pub of : IsOf around p row
  pub runs : Runs function.shapes around live stack frame budget moment

-- One instruction leaves what it should, in every world in which the function ran so.
abbrev pub Went : Live → List Value → Frame → ℕ → Led → Live → List Value → Frame → ℕ → Type 0
Went live0 stack0 frame0 budget0 n live1 stack1 frame1 budget1 =
    (p : RawProgram) (k : ℕ) (row : FunRow) (f : IsFunction p k row) (a : Around) (m : Moment) → IsOf a p row → Runs f.shapes a live0 stack0 frame0 budget0 m
    → Leaves f.shapes a m n live1 stack1 frame1 budget1

-- how much may be left to do: before the first instruction as much as there is, after a last one less
abbrev pub within : Led → ℕ → ℕ
within nexts.Again w = suc w
within (nexts.Call c) w = w
within (nexts.Back c) w = w
within (nexts.Done v) w = w
within (nexts.Error e) w = w
within nexts.Spent w = w

-- The machine came by some instructions, and by no question, to what the code told at the moment which the frame matches. That
-- is as the shapes say, with less to do; nothing of the world is lost and no budget won; the state is closed, and the object
-- is in memory.
pub record Came (shapes : Shapes) (a : Around) (m : Moment) (n : Led) (live : Live) (stack : List Value) (frame : Frame) (budget : ℕ) : Type 0 where
  pub moment : Moment
  pub matches : Matches a live stack frame budget moment
  pub comes : Comes a.code a.scene (Goes m) (told_by n a moment)
  pub shaped : NextMatches shapes (told_by n a moment)
  pub less : NextLess a.code (within n (work_of a.code m)) (told_by n a moment)
  pub later : Later m.state moment.state
  pub fit : IsFit live stack
  pub home : IsHome a live

-- So in every world in which the function ran so.
abbrev pub RunsTo : Live → List Value → Frame → ℕ → Led → Live → List Value → Frame → ℕ → Type 0
RunsTo live0 stack0 frame0 budget0 n live1 stack1 frame1 budget1 =
    (p : RawProgram) (k : ℕ) (row : FunRow) (f : IsFunction p k row) (a : Around) (m : Moment) → IsOf a p row → Runs f.shapes a live0 stack0 frame0 budget0 m
    → Came f.shapes a m n live1 stack1 frame1 budget1

-- not the next instruction
abbrev pub IsLast : Led → Type 0
IsLast nexts.Again = ⊥
IsLast (nexts.Call c) = ⊤
IsLast (nexts.Back c) = ⊤
IsLast (nexts.Done v) = ⊤
IsLast (nexts.Error e) = ⊤
IsLast nexts.Spent = ⊤

-- how much is left to do
abbrev pub catching_of : Catch → Catching
catching_of c = record { place = c.to; height = c.height }

abbrev pub left_of : Frame → ℕ → ℕ
left_of frame budget = work frame.code.instrs budget frame.at (map catching_of frame.catches.items)
