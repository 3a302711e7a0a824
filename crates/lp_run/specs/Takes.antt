-- Common instructions, with the place of the frame and the budget at hand.
use Rattle.std.specs.Prelude.{◌≡◌, ℕ, List, Bool, true, false}
use Rattle.lp_values.specs.declared.value.Value.{Value}
use Rattle.lp_instr.specs.declared.instr.Instr.{Instr}
use Rattle.lp_world.specs.declared.frame.Frame.{Frame}
use Rattle.lp_world.specs.declared.live.Live.{Live}
use Rattle.lp_step.specs.declared.next.Next.TheVariants as nexts
use Rattle.lp_step.specs.Steps.{Keeps, Performs, Steps}

-- the frame, at another place of its code
abbrev pub at_place : Frame → ℕ → Frame
at_place frame n = record frame { at = n }

-- An instruction did its row of the table and the next one follows, and what the stack names stays there; the state is as it was.
pub record Does (i : Instr) (live : Live) (stack0 : List Value) (frame : Frame) (at0 budget0 : ℕ) (stack1 : List Value) (at1 budget1 : ℕ) : Type 0 where
  pub table : Performs i live stack0 (at_place frame at0) budget0 nexts.Again live stack1 (at_place frame at1) budget1
  pub keeps : Keeps live stack0 nexts.Again live stack1

-- AN INSTRUCTION WAS TAKEN, or it was not, and nothing changed.
abbrev pub Takes : Instr → Live → List Value → Frame → ℕ → ℕ → Bool → List Value → ℕ → ℕ → Type 0
Takes i live stack0 frame at0 budget0 true stack1 at1 budget1 = Does i live stack0 frame at0 budget0 stack1 at1 budget1
Takes i live stack0 frame at0 budget0 false stack1 at1 budget1 = (stack1 ≡ stack0) × (at1 ≡ at0) × (budget1 ≡ budget0)

-- the instruction at this place was taken, as one step of the table, or it was not
pub record Goes (live : Live) (stack0 : List Value) (frame : Frame) (at0 budget0 : ℕ) (stack1 : List Value) (at1 budget1 : ℕ) : Type 0 where
  pub table : Steps live stack0 (at_place frame at0) budget0 nexts.Again live stack1 (at_place frame at1) budget1
  pub keeps : Keeps live stack0 nexts.Again live stack1

abbrev pub TakesOne : Live → List Value → Frame → ℕ → ℕ → Bool → List Value → ℕ → ℕ → Type 0
TakesOne live stack0 frame at0 budget0 true stack1 at1 budget1 = Goes live stack0 frame at0 budget0 stack1 at1 budget1
TakesOne live stack0 frame at0 budget0 false stack1 at1 budget1 = (stack1 ≡ stack0) × (at1 ≡ at0) × (budget1 ≡ budget0)
