-- Why something is not answered, by what the device did.
use Rattle.std.specs.Prelude.{◌≡◌, ℕ, IfErr, Option, Result, Ok, Err}
use Rattle.lp_swapfile.specs.Counts.{Counts}
use Rattle.lp_swapfile.specs.Device.{Bytes, Last}
use Rattle.lp_world.specs.declared.live.Live.{Live}
use Rattle.lp_residence.specs.Entering.{IsHonest, is_read_fault}
use Rattle.lp_residence.specs.declared.answers.EnterFault.{EnterFault}
use Rattle.lp_residence.specs.declared.answers.EnterFault.TheVariants as enter_faults
use Rattle.lp_targets.specs.Brought.{IsFaultOf}
use Rattle.lp_vm.specs.declared.fault.VmFault.{VmFault}
use Rattle.lp_vm.specs.declared.fault.VmFault.TheVariants as faults

-- a fault as one of the reads: want of memory is no answer of a read
abbrev pub read_fault : VmFault → EnterFault
read_fault faults.NoMemory = enter_faults.NoMemory
read_fault (faults.Swap cause) = enter_faults.Swap cause

-- what was answered, as far as the reads go
abbrev pub read_of : {A : Type 0} → Result A VmFault → Result (Unit {0}) EnterFault
read_of (Ok x) = Ok tt
read_of (Err e) = Err (read_fault e)

-- no read is the cause
abbrev pub IsReadless : VmFault → Type 0
IsReadless e = read_fault e ≡ enter_faults.NoMemory

-- WHAT THE DEVICE DID: a fault is that of a read of an object or a program that is out still; the count of read faults rose exactly
-- where the read failed; no write failed; and a file that is honest and truthful never gives other bytes.
pub record Tells (told : Option Bytes) (last : Last) (reads0 reads1 writes0 writes1 : ℕ) (true0 true1 honest0 honest1 : Type 0) (live : Live) (answer : Result (Unit {0}) EnterFault) : Type 0 where
  pub cause : IfErr answer (IsFaultOf live told last)
  pub faults : Counts (is_read_fault answer) reads0 reads1
  pub write_faults : writes1 ≡ writes0
  pub truthful : true1 → true0
  pub honest : honest1 → honest0 × (true1 → IsHonest answer)
