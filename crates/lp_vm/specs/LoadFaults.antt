-- Why a load is not carried out, as why a call is not answered.
use Rattle.lp_loading.specs.declared.job.LoadFault.{LoadFault}
use Rattle.lp_loading.specs.declared.job.LoadFault.TheVariants as load_faults
use Rattle.lp_vm.specs.declared.fault.VmFault.{VmFault}
use Rattle.lp_vm.specs.declared.fault.VmFault.TheVariants as faults

abbrev pub load_fault : LoadFault → VmFault
load_fault (load_faults.Swap cause) = faults.Swap cause
load_fault load_faults.NoMemory = faults.NoMemory
