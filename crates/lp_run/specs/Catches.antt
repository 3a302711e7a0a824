-- What is caught goes on at the innermost catch.
use Rattle.std.specs.Prelude.{◌≡◌, ℕ, Bool, true, false, List, Some}
use Rattle.lp_values.specs.declared.value.Value.{Value}
use Rattle.lp_instr.specs.Sound.{Shapes}
use Rattle.lp_language.specs.Course.{Stop, Stops, caught}
use Rattle.lp_isa.specs.Machine.{Moment, Next, Ended, Goes, stop_at, stopped}
use Rattle.lp_isa.specs.SoundCode.{NextMatches}
use Rattle.lp_world.specs.declared.frame.Frame.{Frame}
use Rattle.lp_world.specs.declared.live.Live.{Live}
use Rattle.lp_world.specs.Matches.{Around, Matches}
use Rattle.lp_step.specs.Steps.{IsFit}
use Rattle.lp_step_laws.specs.Running.{IsHome, Runs}

-- Where a catch was open, the frame matches the moment at which the table goes on; else the function ends with the stop.
abbrev pub CatchesAt : Bool → Around → Live → List Value → Frame → ℕ → Stop → Moment → Next → Type 0
CatchesAt true a live stack frame budget x m next = (at : Moment) × (next ≡ Goes at) × Matches a live stack frame budget at
CatchesAt false a live stack frame budget x m next = next ≡ Ended (Stops x m.state)

-- So does a caught value, for each stop that gives it, in every world for which the state stands.
abbrev pub Catches : Bool → Value → List Value → Frame → List Value → Frame → Type 0
Catches is_caught v stack0 frame0 stack1 frame1 =
    (a : Around) (live : Live) (budget : ℕ) (m : Moment) (x : Stop) → Matches a live stack0 frame0 budget m
    → CatchesAt is_caught a live stack1 frame1 budget x m (stop_at (Some v) x m.catches m.stack m.state)

-- Where an error or a thrown value stopped a function of a sound program and a catch was open, the function runs on.
abbrev pub CaughtRunsOn : Type 0
CaughtRunsOn = (shapes : Shapes) (a : Around) (live : Live) (stack0 stack1 : List Value) (frame0 frame1 : Frame) (budget : ℕ) (m : Moment) (x : Stop) (v : Value)
    → caught x.cause ≡ Some v → NextMatches shapes (stopped x m.catches m.stack m.state) → Matches a live stack0 frame0 budget m
    → Catches true v stack0 frame0 stack1 frame1 → IsFit live stack1 → IsHome a live
    → (at : Moment) × (stopped x m.catches m.stack m.state ≡ Goes at) × Runs shapes a live stack1 frame1 budget at
