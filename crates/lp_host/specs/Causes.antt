-- What the devices did in a hosted game, by how it ended: only a device whose count rose is blamed, or the swap file where it gave other bytes.
use Rattle.std.specs.Prelude.{◌≡◌, ⊤, ℕ, List, Bool, true, false, Option, Some, None, string_bytes, codes, ◌⊎◌}
use Rattle.lp_io.specs.Counts.{Rose}
use Rattle.lp_tree.specs.declared.fault.Fault.{Fault}
use Rattle.lp_swapfile.specs.Counts as swap
use Rattle.lp_swapfile.specs.Device.{Bytes, Last}
use Rattle.lp_meaning.specs.Closing.{MakesNoMaster}
use Rattle.lp_meaning.specs.FrontEnd.{FrontEnd}
use Rattle.lp_front_end.specs.FrontEnds.{IsFrontEnd}
use Rattle.lp_world.specs.declared.live.Live.{Live}
use Rattle.lp_residence.specs.Entering.{IsHonestFault}
use Rattle.lp_residence.specs.declared.answers.EnterFault.TheVariants as enter
use Rattle.lp_residence.specs.declared.answers.SwapCause.TheVariants.{Read, Changed}
use Rattle.lp_targets.specs.Brought.{IsFaultOf}
use Rattle.lp_folder.specs.Held.{ArePaths, Held, HoldsAll}
use Rattle.lp_folder.specs.declared.outside.Loaded.{Loaded}
use Rattle.lp_recording.specs.Recorded.{files_in}
use Rattle.lp_serve.specs.Causes.{HasNotRisen}
use Rattle.lp_host.specs.Playing.{world_files}
use Rattle.lp_host.specs.declared.run.Hosted.{Hosted}
use Rattle.lp_host.specs.declared.run.Hosted.TheVariants.{Done, NoMaster, OutputFault, SwapFault, FilesFault, WireFault, TurnsSpent, NoMemory}

-- the output failed
abbrev pub is_output_end : Hosted → Bool
is_output_end OutputFault = true
is_output_end s = false

-- a poll failed
abbrev pub is_wire_end : Hosted → Bool
is_wire_end WireFault = true
is_wire_end s = false

-- the files are blamed only where their count of faults rose
abbrev pub BlamesFiles : Hosted → ℕ → ℕ → Type 0
BlamesFiles (FilesFault path) before now = Rose before now
BlamesFiles s before now = ⊤

-- a read of the swap file failed
abbrev pub is_read_end : Hosted → Bool
is_read_end (SwapFault Read) = true
is_read_end (SwapFault (Changed owner found)) = false
is_read_end s = false

-- the swap file is blamed for a read of an object or a program that was out, as its latest read shows where it tells
abbrev pub HasSwapCause : Hosted → Option Bytes → Last → Type 0
HasSwapCause (SwapFault cause) told last = (live : Live) × IsFaultOf live told last (enter.Swap cause)
HasSwapCause s told last = ⊤

-- the end is not that bytes changed
abbrev pub IsHonestEnd : Hosted → Type 0
IsHonestEnd (SwapFault cause) = IsHonestFault (enter.Swap cause)
IsHonestEnd s = ⊤

-- WHAT THE SWAP FILE DID up to an end: its count of read faults rose exactly where a failed read is the end. One that is honest
-- and truthful never gives other bytes.
pub record SwapTells (end : Hosted) (told : Option Bytes) (last : Last) (reads0 reads1 : ℕ) (true0 true1 honest0 honest1 : Type 0) : Type 0 where
  pub cause : HasSwapCause end told last
  pub faults : swap.Counts (is_read_end end) reads0 reads1
  pub truthful : true1 → true0
  pub honest : honest1 → honest0 × (true1 → IsHonestEnd end)

-- between two moments no read of the swap file failed, and it told no truer
pub record IsQuiet (reads0 reads1 : ℕ) (true0 true1 honest0 honest1 : Type 0) : Type 0 where
  pub faults : reads1 ≡ reads0
  pub truthful : true1 → true0
  pub honest : honest1 → honest0

-- THERE IS NO MASTER: of the files that were loaded, which are those that are held, none is made, for these faults, by each front end that there is
pub record HasNoMaster (seed opening : ℕ) (held : Option Held) (faults : List Fault) : Type 0 where
  pub files : List Loaded
  pub loaded : HoldsAll files held
  pub paths : ArePaths files
  pub none : (front : FrontEnd) → IsFrontEnd front → MakesNoMaster front (world_files (files_in files)) seed opening faults

-- it is said where there is no master; and then nothing was polled, sent or written
abbrev pub IsNoMaster : Hosted → (List Fault → Type 0) → Type 0 → Type 0
IsNoMaster (NoMaster faults) has unserved = has faults.items × unserved
IsNoMaster s has unserved = ⊤

-- WHERE NO DEVICE FAILED: no count rose, and the swap file was honest and truthful
pub record NothingFailed (output0 output1 zeros0 zeros1 files0 files1 wire0 wire1 reads0 reads1 : ℕ) (true1 honest1 : Type 0) : Type 0 where
  pub output : HasNotRisen output0 output1
  pub zeros : HasNotRisen zeros0 zeros1
  pub files : HasNotRisen files0 files1
  pub wire : HasNotRisen wire0 wire1
  pub reads : HasNotRisen reads0 reads1
  pub truthful : true1
  pub honest : honest1

-- the game ended by the operator's stop, by spent polls, for want of a master, or for want of memory, and blames no device
abbrev pub IsInOrder : Hosted → Type 0
IsInOrder Done = ⊤
IsInOrder TurnsSpent = ⊤
IsInOrder (NoMaster faults) = ⊤
IsInOrder NoMemory = ⊤
IsInOrder OutputFault = ⊥
IsInOrder (FilesFault path) = ⊥
IsInOrder WireFault = ⊥
IsInOrder (SwapFault cause) = ⊥
