-- Why a call is not answered.
use Rattle.lp_residence.specs.declared.answers.EnterFault.{EnterFault}
use Rattle.lp_residence.specs.declared.answers.EnterFault.TheVariants as enter_faults
use Rattle.lp_vm.specs.declared.fault.VmFault.{VmFault}
use Rattle.lp_vm.specs.declared.fault.VmFault.TheVariants as faults

-- why something was not brought into memory, as why a call is not answered
abbrev pub fault_of : EnterFault → VmFault
fault_of (enter_faults.Swap cause) = faults.Swap cause
fault_of enter_faults.NoMemory = faults.NoMemory
