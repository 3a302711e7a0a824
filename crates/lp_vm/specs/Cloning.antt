-- `clone_object` goes on to its end.
use Rattle.std.specs.Prelude.{◌≤◌, ⊤, ℕ, List, Option, Some}
use Rattle.lp_values.specs.declared.value.Value.{Value}
use Rattle.lp_code.specs.declared.program.RawProgram.{RawProgram}
use Rattle.lp_cells.specs.Cells.{Store}
use Rattle.lp_events.specs.declared.out.Out.{Out}
use Rattle.lp_swapfile.specs.Device.{Bytes}
use Rattle.lp_language.specs.Course.{State}
use Rattle.lp_meaning.specs.Askers as meaning
use Rattle.lp_meaning.specs.FrontEnd.{FrontEnd}
use Rattle.lp_front_end.specs.FrontEnds.{IsFrontEnd}
use Rattle.lp_world.specs.declared.live.Live.{Live}
use Rattle.lp_step.specs.Steps.{IsFit, KeepsVariables}
use Rattle.lp_asking.specs.declared.asker.Asker.{Asker}
use Rattle.lp_asking.specs.declared.ending.Ending.{Ending}
use Rattle.lp_asking.specs.declared.ending.Place.{Place}
use Rattle.lp_asking.specs.Endings.{IsEndingThere}
use Rattle.lp_cloning.specs.declared.fault.CloningFault.{CloningFault}
use Rattle.lp_cloning.specs.declared.fault.CloningFault.TheVariants as cloning_faults
use Rattle.lp_cloning.specs.declared.job.Begun.{Begun}
use Rattle.lp_cloning.specs.declared.job.Begun.TheVariants as begun
use Rattle.lp_cloning.specs.declared.job.Cloning.{Cloning}
use Rattle.lp_cloning.specs.Beginning.{IsAtBeginning}
use Rattle.lp_cloning.specs.Jobs.{course_of}
use Rattle.lp_vm.specs.declared.fault.VmFault.{VmFault}
use Rattle.lp_vm.specs.declared.fault.VmFault.TheVariants as faults
use Rattle.lp_vm.specs.Answering.{IsSameAsker}
use Rattle.lp_vm.specs.Making.{IsBehind}
use Rattle.lp_vm.specs.Working.{WorkedTo}

-- why nothing is cloned, as why a call is not answered
abbrev pub cloning_fault : CloningFault → VmFault
cloning_fault cloning_faults.NameTaken = faults.NoMemory
cloning_fault (cloning_faults.Swap cause) = faults.Swap cause
cloning_fault cloning_faults.NoMemory = faults.NoMemory

-- the value of an end at once is there
abbrev pub IsBegunThere : Store → Begun → Type 0
IsBegunThere cells (begun.Ends e) = IsEndingThere cells e
IsBegunThere cells (begun.Runs job) = ⊤

-- The job stands for a state of the meaning, on behalf of the function at a place that called the efun, and is at its beginning.
pub record IsCloning (at : Place) (cloning : Cloning) (told : Option Bytes) (programs : List RawProgram) (before : List Out) (live : Live) (asker : Asker) (budget : ℕ) (by : meaning.Asker) (s : State) : Type 0 where
  pub behind : IsBehind (Some at.this) (Some at) told programs before live asker budget by s
  pub begun : IsAtBeginning cloning s

-- so in some world, with a front end
pub record CanClone (at : Place) (cloning : Cloning) (told : Option Bytes) (live : Live) (asker : Asker) (budget : ℕ) : Type 0 where
  pub front : FrontEnd
  pub real : IsFrontEnd front
  pub programs : List RawProgram
  pub before : List Out
  pub by : meaning.Asker
  pub state : State
  pub stands : IsCloning at cloning told programs before live asker budget by state

-- IT ENDS as its course does, in every world in which it stood so; the stack is as it was.
abbrev pub Cloned : Place → Cloning → Option Bytes → Live → List Value → Asker → ℕ → Option Bytes → Live → List Value → Asker → ℕ → Ending → Type 0
Cloned at cloning told0 live0 stack0 asker0 budget0 told1 live1 stack1 asker1 budget1 e =
    (front : FrontEnd) (real : IsFrontEnd front) (programs : List RawProgram) (before : List Out) (by : meaning.Asker) (s : State)
    → IsCloning at cloning told0 programs before live0 asker0 budget0 by s → WorkedTo front (course_of cloning by s) told1 programs before live1 stack1 stack0 asker1 budget1 e

-- A job of `clone_object` ends as its course does. The budget does not rise; who asks is as before, but for the turn; what is in
-- memory stays there; and the state is closed.
pub record Clones (at : Place) (cloning : Cloning) (told0 : Option Bytes) (live0 : Live) (stack0 : List Value) (asker0 : Asker) (budget0 : ℕ) (told1 : Option Bytes) (live1 : Live) (stack1 : List Value) (asker1 : Asker) (budget1 : ℕ) (e : Ending) : Type 0 where
  pub cloned : Cloned at cloning told0 live0 stack0 asker0 budget0 told1 live1 stack1 asker1 budget1 e
  pub same : IsSameAsker asker0 asker1
  pub spends : budget1 ≤ budget0
  pub home : KeepsVariables live0.objects live1.objects
  pub fit : IsFit live1 stack1
  pub there : IsEndingThere live1.cells e
