-- What is in memory after something was brought there, and why something was not.
use Rattle.std.specs.Prelude.{◌≡◌, ℕ, ⊤, List, IfErr, Result, Option, Some}
use Rattle.lp_values.specs.declared.id.ObjId.{ObjId}
use Rattle.lp_values.specs.declared.id.ProgId.{ProgId}
use Rattle.lp_values.specs.declared.value.Value.{Value}
use Rattle.lp_code.specs.declared.program.RawProgram.{RawProgram}
use Rattle.lp_language.specs.World.{World}
use Rattle.lp_swapfile.specs.Counts.{Counts}
use Rattle.lp_swapfile.specs.Device.{Bytes, Last}
use Rattle.lp_world.specs.declared.live.Live.{Live}
use Rattle.lp_world.specs.declared.objects.Object.{Object}
use Rattle.lp_world.specs.declared.versions.Version.{Version}
use Rattle.lp_world.specs.Rows.{row_at, variables_at, version_state}
use Rattle.lp_world.specs.Stands.{Stands}
use Rattle.lp_residence.specs.Entering.{IsCausedBy, IsHonest, is_read_fault}
use Rattle.lp_residence.specs.Owners.{program_of, ticket_at}
use Rattle.lp_residence.specs.declared.answers.EnterFault.{EnterFault}
use Rattle.lp_residence.specs.declared.answers.EnterFault.TheVariants.{NoMemory, Swap}
use Rattle.lp_residence.specs.declared.owner.Owner.{Owner}

-- the program of a version that is in memory
abbrev pub program_at : List (Option Version) → ProgId → Option RawProgram
program_at versions p = program_of (version_state (row_at versions p.0))

-- a row of objects is the same but for what is in memory of it
pub record IsSameObject (old new : Object) : Type 0 where
  pub program : new.program ≡ old.program
  pub is_live : new.is_live ≡ old.is_live
  pub is_living : new.is_living ≡ old.is_living
  pub latest : new.latest ≡ old.latest

-- and a row of versions but for that and for kept answers
pub record IsSameVersion (old new : Version) : Type 0 where
  pub latest : new.latest ≡ old.latest
  pub outline : new.outline ≡ old.outline

-- Nothing changed but what is in memory of objects and versions, the room of the swap file, and answers that are kept; and what was in memory is there still.
pub record StaysInMemory (old new : Live) : Type 0 where
  pub others : new ≡ record old { objects = new.objects; versions = new.versions; swapper = new.swapper }
  pub objects : (n : ℕ) (x : Object) → row_at old.objects n ≡ Some x → (y : Object) × (row_at new.objects n ≡ Some y) × IsSameObject x y
  pub versions : (n : ℕ) (v : Version) → row_at old.versions n ≡ Some v → (u : Version) × (row_at new.versions n ≡ Some u) × IsSameVersion v u
  pub variables : (o : ObjId) (vs : List Value) → variables_at old.objects o ≡ Some vs → variables_at new.objects o ≡ Some vs
  pub programs : (p : ProgId) (raw : RawProgram) → program_at old.versions p ≡ Some raw → program_at new.versions p ≡ Some raw

-- why something was not brought: a read of an object or a program that is out still failed or gave other bytes, or memory ran out
abbrev pub IsFaultOf : Live → Option Bytes → Last → EnterFault → Type 0
IsFaultOf live told last NoMemory = ⊤
IsFaultOf live told last (Swap cause) = (who : Owner) × IsCausedBy who (ticket_at live who) told last (Swap cause)

-- What a call answers that brings something into memory. A fault is that of a read of an object or a program that is out
-- still; the count of read faults rose exactly where the read failed. Nothing was written. A file that is honest
-- and truthful never gives other bytes.
pub record Brings {A : Type 0} (told0 told1 : Option Bytes) (last : Last) (reads0 reads1 writes0 writes1 : ℕ) (true0 true1 honest0 honest1 : Type 0) (live0 live1 : Live) (result : Result A EnterFault) : Type 0 where
  pub stays : StaysInMemory live0 live1
  pub cause : IfErr result (IsFaultOf live1 told1 last)
  pub faults : Counts (is_read_fault result) reads0 reads1
  pub write_faults : writes1 ≡ writes0
  pub kept : told1 ≡ told0
  pub truthful : true1 → true0
  pub honest : honest1 → honest0 × (true1 → (programs : List RawProgram) (w : World) → Stands told0 programs live0 w → IsHonest result)
