-- The driver between its turns: what it does is the start and the turns of the written meaning.
use Rattle.std.specs.Prelude.{◌≡◌, ⊤, [], List, Option, Result, Ok, Err, ℕ}
use Rattle.lp_tree.specs.declared.fault.Fault.{Fault}
use Rattle.lp_code.specs.declared.program.RawProgram.{RawProgram}
use Rattle.lp_events.specs.declared.event.Event.{Event}
use Rattle.lp_events.specs.declared.out.Out.{Out}
use Rattle.lp_files.specs.declared.store.Store.{Store}
use Rattle.lp_first.specs.First.{HasFiles}
use Rattle.lp_swapfile.specs.Device.{Bytes, Last}
use Rattle.lp_language.specs.World.{File, World}
use Rattle.lp_meaning.specs.Closing.{MakesNoMaster, Starts, Turns}
use Rattle.lp_meaning.specs.FrontEnd.{FrontEnd}
use Rattle.lp_front_end.specs.FrontEnds.{IsFrontEnd}
use Rattle.lp_targets.specs.Callees.{IsWorldOf}
use Rattle.lp_world.specs.declared.live.Live.{Live}
use Rattle.lp_residence.specs.declared.answers.EnterFault.{EnterFault}
use Rattle.lp_vm.specs.Causes.{Tells, read_fault}
use Rattle.lp_driver.specs.declared.driver.StartFault.{StartFault}
use Rattle.lp_driver.specs.declared.starting.Started.{Started}
use Rattle.lp_driver.specs.declared.starting.Started.TheVariants as started
use Rattle.lp_driver.specs.declared.driver.StartFault.TheVariants as faults

-- Between turns the live state stands for a world: its programs fit their versions, its shadows are live, and no output is left.
pub record IsAtRest (told : Option Bytes) (live : Live) (w : World) : Type 0 where
  pub programs : List RawProgram
  pub world : IsWorldOf told programs live w
  pub outputs : live.outputs ≡ []

-- An event had its turn: with these outputs it led to a world, for which the live state stands.
pub record HasTurned (front : FrontEnd) (w : World) (event : Event) (told : Option Bytes) (live : Live) (outs : List Out) : Type 0 where
  pub next : World
  pub turns : Turns front w event outs next
  pub rest : IsAtRest told live next

-- A TURN IS CARRIED OUT as the meaning has it.
abbrev pub TurnsAs : Event → Option Bytes → Live → Option Bytes → Live → List Out → Type 0
TurnsAs event told0 live0 told1 live1 outs = (front : FrontEnd) (w : World) → IsFrontEnd front → IsAtRest told0 live0 w → HasTurned front w event told1 live1 outs

-- The driver started on files: with these outputs it led to a first world, for which the live state stands.
pub record HasStarted (front : FrontEnd) (files : List File) (seed moment : ℕ) (told : Option Bytes) (live : Live) (outs : List Out) : Type 0 where
  pub first : World
  pub starts : Starts front files seed moment outs first
  pub rest : IsAtRest told live first

-- THE START IS CARRIED OUT as the meaning has it.
abbrev pub StartsAs : Store → ℕ → ℕ → Option Bytes → Live → List Out → Type 0
StartsAs store seed moment told live outs = (front : FrontEnd) (files : List File) → IsFrontEnd front → HasFiles store files → HasStarted front files seed moment told live outs

-- or there is no master, for these faults
abbrev pub HasNoMaster : Store → ℕ → ℕ → List Fault → Type 0
HasNoMaster store seed moment fs = (front : FrontEnd) (files : List File) → IsFrontEnd front → HasFiles store files → MakesNoMaster front files seed moment fs

abbrev pub HasNoMasterIf : Store → ℕ → ℕ → StartFault → Type 0
HasNoMasterIf store seed moment (faults.NoMaster fs) = HasNoMaster store seed moment fs.items
HasNoMasterIf store seed moment (faults.Stopped e) = ⊤

-- what the start ended with, as a fault
abbrev pub IsNoMasterOf : Started → StartFault → Type 0
IsNoMasterOf started.Begins e = ⊥
IsNoMasterOf (started.NoMaster fs) (faults.NoMaster gs) = gs ≡ fs
IsNoMasterOf (started.NoMaster fs) (faults.Stopped e) = ⊥

-- what a start answered, as far as the reads go
abbrev pub start_answer : {A : Type 0} → Result A StartFault → Result (Unit {0}) EnterFault
start_answer (Ok x) = Ok tt
start_answer (Err (faults.NoMaster fs)) = Ok tt
start_answer (Err (faults.Stopped e)) = Err (read_fault e)

-- WHAT THE DEVICE DID in a start, by some state to which that came
abbrev pub StartTells : Option Bytes → Last → ℕ → ℕ → ℕ → ℕ → Type 0 → Type 0 → Type 0 → Type 0 → Result (Unit {0}) EnterFault → Type 0
StartTells told last reads0 reads1 writes0 writes1 true0 true1 honest0 honest1 answer = (live : Live) × Tells told last reads0 reads1 writes0 writes1 true0 true1 honest0 honest1 live answer
