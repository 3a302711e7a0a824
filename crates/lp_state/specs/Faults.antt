-- Faults of turns, by those of the driver.
use Rattle.std.specs.Prelude.{Result, Ok, Err}
use Rattle.lp_residence.specs.declared.answers.EnterFault.{EnterFault}
use Rattle.lp_residence.specs.declared.answers.EnterFault.TheVariants as enter_faults
use Rattle.lp_driver.specs.VmFault.{VmFault}
use Rattle.lp_driver.specs.VmFault.TheVariants as driver_faults
use Rattle.lp_state.specs.declared.fault.TurnFault.{TurnFault}
use Rattle.lp_state.specs.declared.fault.TurnFault.TheVariants as faults

abbrev pub turn_fault : VmFault → TurnFault
turn_fault driver_faults.NoMemory = faults.NoMemory
turn_fault (driver_faults.Swap cause) = faults.Swap cause

-- what was answered, as far as the reads of the swap file go
abbrev pub read_fault : TurnFault → EnterFault
read_fault faults.HasFailed = enter_faults.NoMemory
read_fault (faults.Swap cause) = enter_faults.Swap cause
read_fault faults.NoMemory = enter_faults.NoMemory

abbrev pub reads_of : {A : Type 0} → Result A TurnFault → Result (Unit {0}) EnterFault
reads_of (Ok x) = Ok tt
reads_of (Err f) = Err (read_fault f)
