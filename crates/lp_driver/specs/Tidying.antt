-- What is done between turns: what ended is forgotten, and what a script names or what is idle goes out.
use Rattle.std.specs.Prelude.{◌≡◌, ◌||◌, ℕ, Bool, true, false, not, nat_eq, [], IfErr, List, Option, Result, length}
use Rattle.std.specs.Str.{chars}
use Rattle.lp_code.specs.declared.program.RawProgram.{RawProgram}
use Rattle.lp_events.specs.declared.event.Event.{Event}
use Rattle.lp_events.specs.declared.event.Event.TheVariants as events
use Rattle.lp_events.specs.declared.out.Out.{Out}
use Rattle.lp_language.specs.World.{World}
use Rattle.lp_objects.specs.Objects.{Named, object_named}
use Rattle.lp_objects.specs.Stands as names
use Rattle.lp_swapfile.specs.Counts.{Counts}
use Rattle.lp_swapfile.specs.Device.{Bytes, Last}
use Rattle.lp_targets.specs.Brought.{IsFaultOf}
use Rattle.lp_targets.specs.Callees.{IsWorldOf}
use Rattle.lp_world.specs.declared.live.Live.{Live}
use Rattle.lp_residence.specs.Entering.{IsHonest, is_read_fault}
use Rattle.lp_residence.specs.Idling.{Device, going, none_yet}
use Rattle.lp_residence.specs.declared.answers.EnterFault.{EnterFault}
use Rattle.lp_residence.specs.declared.answers.Idled.{Idled}
use Rattle.lp_keeping.specs.Needs.{AreNeeded}
use Rattle.lp_tidying.specs.Putting.{AreIdlePut, ArePutWhereTold, named_owners}
use Rattle.lp_driver.specs.Driving.{TurnsAs}
use Rattle.lp_driver.specs.declared.starting.Started.{Started}
use Rattle.lp_driver.specs.declared.starting.Started.TheVariants as started

-- A turn is over: its outputs were taken, and what ended in it was forgotten. The state stands for the same worlds.
pub record IsOver (old new : Live) : Type 0 where
  pub world : (told : Option Bytes) (programs : List RawProgram) (w : World) → IsWorldOf told programs old w → IsWorldOf told programs new w
  pub outputs : new.outputs ≡ []
  pub forgotten : names.died_in new.names ≡ []

-- The start began so: it is over.
pub record HasBegun (end : Started) (before live : Live) (outs : List Out) : Type 0 where
  pub begins : end ≡ started.Begins
  pub outs_are : outs ≡ before.outputs
  pub over : IsOver before live

-- Versions are looked through behind a reload, and behind a turn in which one was made: so many had been made before it, and by its end.
abbrev pub is_reload : Event → Bool
is_reload (events.Connect k) = false
is_reload (events.Line k bytes) = false
is_reload (events.Gone k) = false
is_reload (events.Tick t) = false
is_reload (events.Reload path bytes) = true
is_reload (events.Swap name) = false

abbrev pub drops_behind : Event → ℕ → ℕ → Bool
drops_behind event before behind = is_reload event || not (nat_eq behind before)

-- each version that a state has is needed: an object has it, or a needed one names it
abbrev pub HasNeededAlone : Live → Type 0
HasNeededAlone l = AreNeeded l.objects l.versions

-- nothing is put out
abbrev pub IsUntouched : Live → Device → Live → Device → Idled → Type 0
IsUntouched l d l' d' n = (l' ≡ l) × (d' ≡ d) × (n ≡ none_yet)

-- What goes out behind an event, and how many went and were kept for each cause: behind a tick what is idle then, in its order; for a swap
-- item the live object of the name and then its version; behind each other event nothing.
abbrev pub IsTidied : ℕ → Event → Live → Device → Live → Device → Idled → Type 0
IsTidied swap_time (events.Connect k) l d l' d' n = IsUntouched l d l' d' n
IsTidied swap_time (events.Line k bytes) l d l' d' n = IsUntouched l d l' d' n
IsTidied swap_time (events.Gone k) l d l' d' n = IsUntouched l d l' d' n
IsTidied swap_time (events.Tick t) l d l' d' n = AreIdlePut (going swap_time l) l d l' d' n
IsTidied swap_time (events.Reload path bytes) l d l' d' n = IsUntouched l d l' d' n
IsTidied swap_time (events.Swap name) l d l' d' n = (objects : List Named) → names.Stands l.names objects → ArePutWhereTold (named_owners l (object_named objects (chars name))) l d l' d' n

-- An event had its turn, which was over then; behind a reload, and where a version was made, no version was there but the needed ones; and
-- what goes out behind it was put out, so many. The device told this and had so many write faults before and after.
pub record HasTidied (swap_time : ℕ) (event : Event) (told0 : Option Bytes) (writes0 : ℕ) (live0 : Live) (told1 : Option Bytes) (writes1 : ℕ) (live1 : Live) (idled : Idled) : Type 0 where
  pub told : Option Bytes
  pub live : Live
  pub outs : List Out
  pub turns : TurnsAs event told0 live0 told live outs
  pub forgotten : names.died_in live.names ≡ []
  pub needed : drops_behind event (length live0.versions) (length live.versions) ≡ true → HasNeededAlone live
  pub tidied : IsTidied swap_time event live (record { told = told; faults = writes0 }) live1 (record { told = told1; faults = writes1 }) idled

-- What the device did where something was to be put out: nothing was read.
pub record ReadsNothing (reads0 reads1 : ℕ) (true0 true1 honest0 honest1 : Type 0) : Type 0 where
  pub faults : reads1 ≡ reads0
  pub truthful : true1 → true0
  pub honest : honest1 → honest0

-- WHAT THE DEVICE DID in a turn and behind it: a fault is that of a read of an object or a program that is out still; the count of
-- read faults rose exactly where the read failed; and a file that is honest and truthful never gives other bytes.
pub record TurnTells (told : Option Bytes) (last : Last) (reads0 reads1 : ℕ) (true0 true1 honest0 honest1 : Type 0) (live : Live) (answer : Result (Unit {0}) EnterFault) : Type 0 where
  pub cause : IfErr answer (IsFaultOf live told last)
  pub faults : Counts (is_read_fault answer) reads0 reads1
  pub truthful : true1 → true0
  pub honest : honest1 → honest0 × (true1 → IsHonest answer)
