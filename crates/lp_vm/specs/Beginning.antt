-- How a call begins and ends, beside what it means.
use Rattle.std.specs.Prelude.{◌≡◌, ◌+◌, ◌-◌, ◌≤◌, ℕ, List, Option, is_some, length, take}
use Rattle.lp_values.specs.declared.id.ObjId.{ObjId}
use Rattle.lp_values.specs.declared.value.Value.{Value}
use Rattle.lp_swapfile.specs.Device.{Bytes}
use Rattle.lp_step.specs.Steps.{IsFit}
use Rattle.lp_world.specs.declared.frame.Frame.{Frame}
use Rattle.lp_world.specs.declared.live.Live.{Live}
use Rattle.lp_asking.specs.declared.asker.Asker.{Asker}
use Rattle.lp_asking.specs.declared.ending.Ending.{Ending}
use Rattle.lp_asking.specs.declared.ending.Ending.TheVariants as endings
use Rattle.lp_asking.specs.Beginning.{HasCaller, HasNoCaller, IsPlaced}
use Rattle.lp_asking.specs.Endings.{IsEndingThere}
use Rattle.lp_vm.specs.declared.entering.Begun.{Begun}
use Rattle.lp_vm.specs.declared.entering.Begun.TheVariants as begins
use Rattle.lp_vm.specs.declared.entering.Left.{Left}
use Rattle.lp_vm.specs.declared.entering.Started.{Started}
use Rattle.lp_vm.specs.declared.entering.Started.TheVariants as starts
use Rattle.lp_reaching.specs.declared.reached.Reached.{Reached}
use Rattle.lp_vm.specs.declared.request.Request.{Request}
use Rattle.lp_vm.specs.declared.request.Request.TheVariants as requests
use Rattle.lp_vm.specs.Answering.{CanServe}
use Rattle.lp_vm.specs.Cycle.{Answers, Finishes}
use Rattle.lp_vm.specs.Going.{CanGo}

-- where a function did not begin all is as it was; where it did, 1 was paid
abbrev pub IsBegun : Begun → Option ObjId → Live → List Value → Asker → ℕ → Asker → ℕ → Type 0
IsBegun (begins.Stopped s) caller live stack asker0 budget0 asker1 budget1 = (asker1 ≡ asker0) × (budget1 ≤ budget0) × IsFit live stack × IsEndingThere live.cells (endings.Stopped s)
IsBegun (begins.Runs frame) caller live stack asker0 budget0 asker1 budget1 = HasCaller caller asker0 asker1 × (budget0 ≡ budget1 + 1) × IsFit live stack

-- what is to be done at the end of a function that was reached with so many arguments on top
abbrev pub left_behind : Reached → ℕ → ℕ → Left
left_behind x height args = record { place = record { this = x.callee.this; program = x.callee.program; fun = x.callee.fun }; bottom = height - args; is_called = is_some x.caller }

-- a request can be answered, whatever the swap file tells
abbrev pub CanStart : Live → List Value → Asker → ℕ → Request → ℕ → Type 0
CanStart live stack asker budget request args = (told : Option Bytes) × CanServe told live stack asker budget request args

-- A function was entered: 1 was paid. It can run, and however it ends, the question is answered by that, once nothing is left of
-- it on the stack, who asks is as before, and a stop without a place has the function's.
pub record HasEntered (found : Option Reached) (args : ℕ) (live0 : Live) (stack0 : List Value) (asker0 : Asker) (budget0 : ℕ) (live1 : Live) (stack1 : List Value) (frame : Frame) (left : Left) (asker1 : Asker) (budget1 : ℕ) : Type 0 where
  pub less : budget0 ≡ budget1 + 1
  pub can : (told : Option Bytes) → CanServe told live0 stack0 asker0 budget0 (requests.Function found) args → CanGo told live1 stack1 frame asker1 budget1
  pub depth : (told0 told1 : Option Bytes) (live2 : Live) (stack2 : List Value) (asker2 : Asker) (budget2 : ℕ) (e : Ending)
      → Finishes told0 live1 stack1 frame asker1 budget1 told1 live2 stack2 asker2 budget2 e → 1 ≤ asker2.depth
  pub bottom : (told0 told1 : Option Bytes) (live2 : Live) (stack2 : List Value) (asker2 : Asker) (budget2 : ℕ) (e : Ending)
      → CanServe told0 live0 stack0 asker0 budget0 (requests.Function found) args → Finishes told0 live1 stack1 frame asker1 budget1 told1 live2 stack2 asker2 budget2 e → left.bottom ≤ length stack2
  pub answers : (told0 told1 : Option Bytes) (live2 : Live) (stack2 stack3 : List Value) (asker2 asker3 : Asker) (budget2 : ℕ) (e given : Ending)
      → Finishes told0 live1 stack1 frame asker1 budget1 told1 live2 stack2 asker2 budget2 e → stack3 ≡ take left.bottom stack2
      → ((was : Asker) (caller : Option ObjId) → HasCaller caller was asker2 → HasNoCaller left.is_called caller was asker2 asker3) → IsPlaced left.place e given → IsFit live2 stack3
      → Answers (requests.Function found) args told0 live0 stack0 asker0 budget0 told1 live2 stack3 asker3 budget2 given

-- A call begins: it is answered at once, or its function runs.
abbrev pub Starts : Started → Option Reached → ℕ → Live → List Value → Asker → ℕ → Live → List Value → Asker → ℕ → Type 0
Starts (starts.Answered e) found args live0 stack0 asker0 budget0 live1 stack1 asker1 budget1 = (told : Option Bytes) → Answers (requests.Function found) args told live0 stack0 asker0 budget0 told live1 stack1 asker1 budget1 e
Starts (starts.Runs frame left) found args live0 stack0 asker0 budget0 live1 stack1 asker1 budget1 = HasEntered found args live0 stack0 asker0 budget0 live1 stack1 frame left asker1 budget1
