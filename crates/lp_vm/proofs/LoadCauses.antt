-- What the device did while a load went on.
use Rattle.std.proofs.Common.{◌≡◌, ℕ, Option, Err, ap}
use Rattle.lp_swapfile.specs.Device.{Bytes, Last}
use Rattle.lp_world.specs.declared.live.Live.{Live}
use Rattle.lp_residence.specs.declared.answers.EnterFault.TheVariants as enter_faults
use Rattle.lp_beginning.specs.Beginning.{BringsFirst}
use Rattle.lp_loading.specs.declared.job.LoadFault.{LoadFault}
use Rattle.lp_loading.specs.declared.job.LoadFault.TheVariants as load_faults
use Rattle.lp_loading.specs.Present.{HasWorld}
use Rattle.lp_loading.specs.Telling.{IsDeviceless, brought_as}
use Rattle.lp_vm.specs.declared.fault.VmFault.{VmFault}
use Rattle.lp_vm.specs.Causes.{IsReadless, Tells, read_fault}
use Rattle.lp_vm.specs.LoadFaults.{load_fault}
use Rattle.lp_vm.specs.Making.{StandsForOne}
use Rattle.lp_vm.proofs.Causing.{tells_fault_first}

pub stands_for_one : (told : Option Bytes) (live : Live) → HasWorld told live → StandsForOne told live
stands_for_one told live h = (h.programs, h.world, h.is.stands)

-- a fault of a load is that of a read, or none of a read
pub load_tells : {told0 told1 : Option Bytes} {last : Last} {reads0 reads1 writes0 writes1 : ℕ} {true0 true1 honest0 honest1 : Type 0} {live0 live1 : Live} (e : LoadFault)
    → BringsFirst told0 told1 last reads0 reads1 writes0 writes1 true0 true1 honest0 honest1 live0 live1 (brought_as e) → StandsForOne told0 live0
    → Tells told1 last reads0 reads1 writes0 writes1 true0 true1 honest0 honest1 live1 (Err (read_fault (load_fault e)))
load_tells (load_faults.Swap cause) h stands = tells_fault_first (enter_faults.Swap cause) h stands
load_tells load_faults.NoMemory h stands = tells_fault_first enter_faults.NoMemory h stands

-- where no device has a part in it, it is none of a read
pub load_readless : (x : LoadFault) (e : VmFault) → IsDeviceless x → e ≡ load_fault x → IsReadless e
load_readless (load_faults.Swap cause) e h is = absurd h
load_readless load_faults.NoMemory e h is = ap read_fault is
