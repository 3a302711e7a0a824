-- A state between its turns.
use Rattle.std.specs.Prelude.{◌≡◌, ℕ, Bool, List, Option, Result, Ok, Err, false}
use Rattle.lp_events.specs.declared.out.Out.{Out}
use Rattle.lp_swapfile.specs.Device.{Bytes}
use Rattle.lp_language.specs.World.{World}
use Rattle.lp_world.specs.Closed.{IsClosed}
use Rattle.lp_world.specs.declared.live.Live.{Live}
use Rattle.lp_residence.specs.declared.answers.Idled.{Idled}
use Rattle.lp_driver.specs.VmFault.{VmFault}
use Rattle.lp_driver.specs.Driving.{IsAtRest}
use Rattle.lp_state.specs.declared.fault.TurnFault.{TurnFault}
use Rattle.lp_state.specs.declared.state.State.{State}
use Rattle.lp_state.specs.Faults.{turn_fault}

-- what a state has
abbrev pub live_in : State → Live
live_in s = s.live

abbrev pub swap_time_in : State → ℕ
swap_time_in s = s.swap_time

abbrev pub has_failed_in : State → Bool
has_failed_in s = s.has_failed

abbrev pub idled_in : State → Idled
idled_in s = s.idled

-- A state that has not failed is closed, and stands for a world at rest. Of one that has failed nothing is said.
pub record IsReady (told : Option Bytes) (s : State) : Type 0 where
  pub closed : IsClosed s.live
  pub rest : (w : World) × IsAtRest told s.live w

abbrev pub GoesOn : Option Bytes → State → Type 0
GoesOn told s = s.has_failed ≡ false → IsReady told s

-- all but the store is as it was
pub record IsAsBefore (old new : State) : Type 0 where
  pub live : new.live ≡ record old.live { store = new.live.store }
  pub time : new.swap_time ≡ old.swap_time
  pub failed : new.has_failed ≡ old.has_failed
  pub idled : new.idled ≡ old.idled

-- a turn ended as the driver's did
abbrev pub AreSameEnds : Result (List Out × Idled) VmFault → Result (List Out) TurnFault → Type 0
AreSameEnds (Ok r) (Ok outs) = outs ≡ r.0
AreSameEnds (Ok r) (Err f) = ⊥
AreSameEnds (Err e) (Ok outs) = ⊥
AreSameEnds (Err e) (Err f) = f ≡ turn_fault e
