-- What the cycle of calls promises: what is answered, and how functions and jobs end.
use Rattle.std.specs.Prelude.{◌≤◌, ℕ, List, Option}
use Rattle.lp_values.specs.declared.value.Value.{Value}
use Rattle.lp_swapfile.specs.Device.{Bytes}
use Rattle.lp_world.specs.declared.frame.Frame.{Frame}
use Rattle.lp_world.specs.declared.live.Live.{Live}
use Rattle.lp_step.specs.Steps.{IsFit, KeepsVariables}
use Rattle.lp_asking.specs.declared.asker.Asker.{Asker}
use Rattle.lp_asking.specs.declared.ending.Ending.{Ending}
use Rattle.lp_asking.specs.declared.ending.Place.{Place}
use Rattle.lp_asking.specs.Endings.{IsEndingThere}
use Rattle.lp_calling.specs.declared.job.Job.{Job}
use Rattle.lp_vm.specs.declared.request.Request.{Request}
use Rattle.lp_vm.specs.Answering.{IsSameAsker, Served}
use Rattle.lp_vm.specs.Going.{Went}
use Rattle.lp_vm.specs.Working.{Worked}

-- A request is answered as the meaning has it. The budget does not rise; who asks is as before, but for the turn; what is in
-- memory stays there; and the state is closed.
pub record Answers (request : Request) (args : ℕ) (told0 : Option Bytes) (live0 : Live) (stack0 : List Value) (asker0 : Asker) (budget0 : ℕ) (told1 : Option Bytes) (live1 : Live) (stack1 : List Value) (asker1 : Asker) (budget1 : ℕ) (e : Ending) : Type 0 where
  pub served : Served request args told0 live0 stack0 asker0 budget0 told1 live1 stack1 asker1 budget1 e
  pub same : IsSameAsker asker0 asker1
  pub spends : budget1 ≤ budget0
  pub home : KeepsVariables live0.objects live1.objects
  pub fit : IsFit live1 stack1
  pub there : IsEndingThere live1.cells e

-- A function that runs ends as its course does, and likewise.
pub record Finishes (told0 : Option Bytes) (live0 : Live) (stack0 : List Value) (frame0 : Frame) (asker0 : Asker) (budget0 : ℕ) (told1 : Option Bytes) (live1 : Live) (stack1 : List Value) (asker1 : Asker) (budget1 : ℕ) (e : Ending) : Type 0 where
  pub went : Went told0 live0 stack0 frame0 asker0 budget0 told1 live1 stack1 asker1 budget1 e
  pub same : IsSameAsker asker0 asker1
  pub spends : budget1 ≤ budget0
  pub home : KeepsVariables live0.objects live1.objects
  pub fit : IsFit live1 stack1
  pub there : IsEndingThere live1.cells e

-- A job of an efun that the function at a place called ends as its course does, and likewise.
pub record Works (at : Place) (job : Job) (told0 : Option Bytes) (live0 : Live) (stack0 : List Value) (asker0 : Asker) (budget0 : ℕ) (told1 : Option Bytes) (live1 : Live) (stack1 : List Value) (asker1 : Asker) (budget1 : ℕ) (e : Ending) : Type 0 where
  pub worked : Worked at job told0 live0 stack0 asker0 budget0 told1 live1 stack1 asker1 budget1 e
  pub same : IsSameAsker asker0 asker1
  pub spends : budget1 ≤ budget0
  pub home : KeepsVariables live0.objects live1.objects
  pub fit : IsFit live1 stack1
  pub there : IsEndingThere live1.cells e
