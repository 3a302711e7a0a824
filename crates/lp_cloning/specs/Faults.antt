-- Why nothing is cloned, by why a program was not brought into memory, or an object not made; and what the device did.
use Rattle.std.specs.Prelude.{◌≡◌, ℕ, ⊤, List, IfErr, IsSome, Option, Result, Ok, Err}
use Rattle.lp_code.specs.declared.program.RawProgram.{RawProgram}
use Rattle.lp_swapfile.specs.Counts.{Counts}
use Rattle.lp_swapfile.specs.Device.{Bytes, Last}
use Rattle.lp_language.specs.World.{World, object_named}
use Rattle.lp_world.specs.declared.live.Live.{Live}
use Rattle.lp_world.specs.Stands.{Stands}
use Rattle.lp_residence.specs.Entering.{IsHonest, is_read_fault}
use Rattle.lp_residence.specs.declared.answers.EnterFault.{EnterFault}
use Rattle.lp_residence.specs.declared.answers.EnterFault.TheVariants as enters
use Rattle.lp_targets.specs.Brought.{IsFaultOf}
use Rattle.lp_beginning.specs.declared.fault.MakingFault.{MakingFault}
use Rattle.lp_beginning.specs.declared.fault.MakingFault.TheVariants as makings
use Rattle.lp_cloning.specs.declared.fault.CloningFault.{CloningFault}
use Rattle.lp_cloning.specs.declared.fault.CloningFault.TheVariants as faults

abbrev pub entered_as : EnterFault → CloningFault
entered_as (enters.Swap cause) = faults.Swap cause
entered_as enters.NoMemory = faults.NoMemory

abbrev pub made_as : MakingFault → CloningFault
made_as makings.NameTaken = faults.NameTaken
made_as (makings.Swap cause) = faults.Swap cause
made_as makings.NoMemory = faults.NoMemory

-- no device and no name has a part in it
abbrev pub IsNoMemory : CloningFault → Type 0
IsNoMemory e = e ≡ faults.NoMemory

-- Names

-- The name that a clone was to have is that of a live object, in each world for which the state stands; of other faults
-- nothing is said.
abbrev pub IsTakenFor : Option Bytes → Live → (World → List ℕ) → CloningFault → Type 0
IsTakenFor told live name faults.NameTaken = (programs : List RawProgram) (w : World) → Stands told programs live w → IsSome (object_named w (name w))
IsTakenFor told live name (faults.Swap cause) = ⊤
IsTakenFor told live name faults.NoMemory = ⊤

-- The device

-- what was to be brought into memory was brought there, or not
abbrev pub brought_as : CloningFault → Result (Unit {0}) EnterFault
brought_as faults.NameTaken = Ok tt
brought_as (faults.Swap cause) = Err (enters.Swap cause)
brought_as faults.NoMemory = Err enters.NoMemory

abbrev pub brought_by : {A : Type 0} → Result A CloningFault → Result (Unit {0}) EnterFault
brought_by (Ok x) = Ok tt
brought_by (Err e) = brought_as e

-- WHAT THE DEVICE DID: a fault is that of a read of an object or a program that is out still; the count of read faults rose
-- exactly where the read failed; nothing was written; and a file that is honest and truthful never gives other bytes.
pub record Tells (told0 told1 : Option Bytes) (last : Last) (reads0 reads1 writes0 writes1 : ℕ) (true0 true1 honest0 honest1 : Type 0) (live0 live1 : Live) (brought : Result (Unit {0}) EnterFault) : Type 0 where
  pub cause : IfErr brought (IsFaultOf live1 told1 last)
  pub faults : Counts (is_read_fault brought) reads0 reads1
  pub write_faults : writes1 ≡ writes0
  pub kept : told1 ≡ told0
  pub truthful : true1 → true0
  pub honest : honest1 → honest0 × (true1 → (programs : List RawProgram) (w : World) → Stands told0 programs live0 w → IsHonest brought)
