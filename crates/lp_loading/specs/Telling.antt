-- Why a load is not carried out, by what the device did.
use Rattle.std.specs.Prelude.{◌≡◌, ⊤, List, Option, Result, Ok, Err}
use Rattle.lp_code.specs.declared.program.RawProgram.{RawProgram}
use Rattle.lp_swapfile.specs.Device.{Bytes}
use Rattle.lp_language.specs.World.{World}
use Rattle.lp_world.specs.Stands.{Stands}
use Rattle.lp_world.specs.declared.live.Live.{Live}
use Rattle.lp_residence.specs.declared.answers.EnterFault.{EnterFault}
use Rattle.lp_residence.specs.declared.answers.EnterFault.TheVariants as enters
use Rattle.lp_loading.specs.declared.job.LoadFault.{LoadFault}
use Rattle.lp_loading.specs.declared.job.LoadFault.TheVariants as faults

-- what a fault says of what was to be brought into memory
abbrev pub brought_as : LoadFault → Result (Unit {0}) EnterFault
brought_as (faults.Swap cause) = Err (enters.Swap cause)
brought_as faults.NoMemory = Err enters.NoMemory

abbrev pub brought_by : {A : Type 0} → Result A LoadFault → Result (Unit {0}) EnterFault
brought_by (Ok x) = Ok tt
brought_by (Err e) = brought_as e

-- no device has a part in it
abbrev pub IsDeviceless : LoadFault → Type 0
IsDeviceless (faults.Swap cause) = ⊥
IsDeviceless faults.NoMemory = ⊤

-- the fault of what was to be brought into memory
abbrev pub fault_of : EnterFault → LoadFault
fault_of (enters.Swap cause) = faults.Swap cause
fault_of enters.NoMemory = faults.NoMemory

-- Where a state stands for a world, another stands for one with the same objects: it has a version more, for instance.
abbrev pub StandsFor : Live → Live → Type 0
StandsFor live0 live1 = (told : Option Bytes) (programs : List RawProgram) (w : World) → Stands told programs live0 w → (more : List RawProgram) × (u : World) × Stands told more live1 u × (u.objects ≡ w.objects)
