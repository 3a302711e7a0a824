-- Which device an end blames: only one whose count of faults rose, or the swap file where it gave other bytes.
use Rattle.std.specs.Prelude.{◌≡◌, ℕ, ◌⊎◌, Bool, true, false, Option, Result, Ok, Err, ⊤}
use Rattle.lp_io.specs.Counts.{Rose}
use Rattle.lp_swapfile.specs.Counts as swap
use Rattle.lp_swapfile.specs.Device.{Bytes, Last}
use Rattle.lp_residence.specs.Entering.{IsHonestFault}
use Rattle.lp_residence.specs.declared.answers.EnterFault.TheVariants as enter
use Rattle.lp_residence.specs.declared.answers.SwapCause.TheVariants.{Read, Changed}
use Rattle.lp_targets.specs.Brought.{IsFaultOf}
use Rattle.lp_world.specs.declared.live.Live.{Live}
use Rattle.lp_driver.specs.VmFault.{VmFault}
use Rattle.lp_driver.specs.VmFault.TheVariants as faults
use Rattle.lp_top.specs.declared.status.Status.{Status}
use Rattle.lp_top.specs.declared.status.Status.TheVariants.{Done, InputFault, OutputFault, SwapFault, FilesFault, WireFault, NoMemory}

-- the input is blamed only where the source's count of faults rose between two moments
abbrev pub BlamesInput : Status → ℕ → ℕ → Type 0
BlamesInput s before now = s ≡ InputFault → Rose before now

-- the output only where the sink's count of faults rose, or that of its writes that took nothing
abbrev pub BlamesOutput : Status → ℕ → ℕ → ℕ → ℕ → Type 0
BlamesOutput s before now zeros_before zeros_now = s ≡ OutputFault → Rose before now ⊎ Rose zeros_before zeros_now

-- the files only where their count of faults rose
abbrev pub BlamesFiles : Status → ℕ → ℕ → Type 0
BlamesFiles (FilesFault path) before now = Rose before now
BlamesFiles s before now = ⊤

-- a poll of the wire failed
abbrev pub is_wire_fault : Status → Bool
is_wire_fault WireFault = true
is_wire_fault s = false

-- a read of the swap file failed
abbrev pub is_read_end : Status → Bool
is_read_end (SwapFault Read) = true
is_read_end (SwapFault (Changed owner found)) = false
is_read_end s = false

-- the swap file is blamed for a read of an object or a program that was out, as its latest read shows where it tells
abbrev pub HasSwapCause : Status → Option Bytes → Last → Type 0
HasSwapCause (SwapFault cause) told last = (live : Live) × IsFaultOf live told last (enter.Swap cause)
HasSwapCause s told last = ⊤

-- the end is not that bytes changed
abbrev pub IsHonestEnd : Status → Type 0
IsHonestEnd (SwapFault cause) = IsHonestFault (enter.Swap cause)
IsHonestEnd s = ⊤

-- WHAT THE SWAP FILE DID up to an end: its count of read faults rose exactly where a failed read is the end. One that is honest
-- and truthful never gives other bytes.
pub record SwapTells (status : Status) (told : Option Bytes) (last : Last) (reads0 reads1 : ℕ) (true0 true1 honest0 honest1 : Type 0) : Type 0 where
  pub cause : HasSwapCause status told last
  pub faults : swap.Counts (is_read_end status) reads0 reads1
  pub truthful : true1 → true0
  pub honest : honest1 → honest0 × (true1 → IsHonestEnd status)

-- the end of a start, or of a turn, that was not carried out
abbrev pub stop_status : VmFault → Status
stop_status faults.NoMemory = NoMemory
stop_status (faults.Swap cause) = SwapFault cause

-- the end that stands in an answer, if there is one
abbrev pub end_in : {A : Type 0} → Result A Status → Status
end_in (Ok x) = Done
end_in (Err s) = s
