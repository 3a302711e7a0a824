-- A function runs until it asks or ends, and goes on with what is answered.
use Rattle.std.specs.Prelude.{◌<◌, ◌≤◌, ℕ, List, Option, None}
use Rattle.lp_values.specs.declared.value.Value.{Value}
use Rattle.lp_swapfile.specs.Device.{Bytes}
use Rattle.lp_world.specs.declared.frame.Frame.{Frame}
use Rattle.lp_world.specs.declared.live.Live.{Live}
use Rattle.lp_step.specs.Steps.{IsFit, KeepsVariables}
use Rattle.lp_run.specs.Runs.{left_of}
use Rattle.lp_asking.specs.declared.asker.Asker.{Asker}
use Rattle.lp_asking.specs.declared.ending.Ending.{Ending}
use Rattle.lp_asking.specs.Resuming.{Resumes}
use Rattle.lp_vm.specs.declared.halting.Halted.{Halted}
use Rattle.lp_vm.specs.declared.halting.Halted.TheVariants as halts
use Rattle.lp_vm.specs.declared.request.Request.{Request}
use Rattle.lp_vm.specs.Answering.{CanServe}
use Rattle.lp_vm.specs.Cycle.{Answers, Finishes}
use Rattle.lp_vm.specs.Going.{CanGo, Turned}

-- A function asks this. It can be answered; and whatever is answered, the function goes on with that, with less to do, or ends.
pub record Calls (request : Request) (args : ℕ) (told0 : Option Bytes) (live0 : Live) (stack0 : List Value) (frame0 : Frame) (budget0 : ℕ) (told1 : Option Bytes) (live1 : Live) (stack1 : List Value) (frame1 : Frame) (budget1 : ℕ) : Type 0 where
  pub spends : budget1 ≤ budget0
  pub home : KeepsVariables live0.objects live1.objects
  pub fit : IsFit live1 stack1
  pub can : (asker : Asker) → CanGo told0 live0 stack0 frame0 asker budget0 → CanServe told1 live1 stack1 asker budget1 request args
  pub turns : (told2 : Option Bytes) (live2 : Live) (stack2 stack3 : List Value) (frame3 : Frame) (asker0 asker2 : Asker) (budget2 : ℕ) (e : Ending) (r : Option Ending)
      → Answers request args told1 live1 stack1 asker0 budget1 told2 live2 stack2 asker2 budget2 e → Resumes r 0 e stack2 frame1 stack3 frame3 → IsFit live2 stack3
      → Turned r told0 live0 stack0 frame0 asker0 budget0 told2 live2 stack3 frame3 asker2 budget2
  pub nearer : (told2 : Option Bytes) (live2 : Live) (stack2 stack3 : List Value) (frame3 : Frame) (asker0 asker2 : Asker) (budget2 : ℕ) (e : Ending)
      → CanGo told0 live0 stack0 frame0 asker0 budget0 → Answers request args told1 live1 stack1 asker0 budget1 told2 live2 stack2 asker2 budget2 e → Resumes None 0 e stack2 frame1 stack3 frame3 → IsFit live2 stack3
      → left_of frame3 budget2 < left_of frame0 budget0

-- or it ends, as its course does
abbrev pub Halts : Halted → Option Bytes → Live → List Value → Frame → ℕ → Option Bytes → Live → List Value → Frame → ℕ → Type 0
Halts (halts.Ended e) told0 live0 stack0 frame0 budget0 told1 live1 stack1 frame1 budget1 = (asker : Asker) → Finishes told0 live0 stack0 frame0 asker budget0 told1 live1 stack1 asker budget1 e
Halts (halts.Asks request args) told0 live0 stack0 frame0 budget0 told1 live1 stack1 frame1 budget1 = Calls request args told0 live0 stack0 frame0 budget0 told1 live1 stack1 frame1 budget1

-- a function can go on, whoever asks
abbrev pub CanHalt : Option Bytes → Live → List Value → Frame → ℕ → Type 0
CanHalt told live stack frame budget = (asker : Asker) × CanGo told live stack frame asker budget
