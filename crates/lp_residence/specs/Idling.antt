-- What is idle goes out: objects by serial, then versions by number.
use Rattle.std.specs.Prelude.{◌≡◌, ◌≤◌, ◌+◌, ℕ, zero, suc, List, [], ◌∷◌, ◌++◌, length, filter, Bool, true, false, not, ◌&&◌, Option, Some, None, Ok}
use Rattle.lp_swapfile.specs.Counts.{Counts}
use Rattle.lp_swapfile.specs.Device.{Bytes}
use Rattle.lp_meaning.specs.IdleAndKept.{is_idle}
use Rattle.lp_world.specs.Rows.{is_out_state, row_at}
use Rattle.lp_world.specs.declared.live.Live.{Live}
use Rattle.lp_world.specs.declared.objects.Object.{Object}
use Rattle.lp_world.specs.declared.versions.ProgramState.{ProgramState}
use Rattle.lp_world.specs.declared.versions.ProgramState.TheVariants as programs_of
use Rattle.lp_world.specs.declared.versions.Version.{Version}
use Rattle.lp_residence.specs.Puts.{IsPut, is_kept_fault}
use Rattle.lp_residence.specs.declared.answers.Idled.{Idled}
use Rattle.lp_residence.specs.declared.answers.PutOut.{PutOut}
use Rattle.lp_residence.specs.declared.answers.PutOut.TheVariants as puts
use Rattle.lp_residence.specs.declared.owner.Owner.{Owner}
use Rattle.lp_residence.specs.declared.owner.Owner.TheVariants as owners

-- whether an object goes: it is live, in memory and idle
abbrev pub is_idle_object : ℕ → ℕ → Option Object → Bool
is_idle_object time clock None = false
is_idle_object time clock (Some o) = o.is_live && not (is_out_state o.state) && is_idle time clock o.latest

abbrev pub is_out_program : ProgramState → Bool
is_out_program (programs_of.Resident p) = false
is_out_program (programs_of.Swapped t) = true

-- whether a version goes: its program is in memory, and it is idle
abbrev pub is_idle_version : ℕ → ℕ → Option Version → Bool
is_idle_version time clock None = false
is_idle_version time clock (Some v) = not (is_out_program v.state) && is_idle time clock v.latest

abbrev pub goes : ℕ → Live → Owner → Bool
goes time l (owners.Object o) = is_idle_object time l.clock (row_at l.objects o.0)
goes time l (owners.Program p) = is_idle_version time l.clock (row_at l.versions p.0)

-- the first n objects by serial, and versions by number
abbrev pub first_objects : ℕ → List Owner
first_objects zero = []
first_objects (suc n) = first_objects n ++ owners.Object (record { 0 = n }) ∷ []

abbrev pub first_versions : ℕ → List Owner
first_versions zero = []
first_versions (suc n) = first_versions n ++ owners.Program (record { 0 = n }) ∷ []

-- those that go, in order
abbrev pub going : ℕ → Live → List Owner
going time l = filter (goes time l) (first_objects (length l.objects) ++ first_versions (length l.versions))

-- how many went, and were kept for each cause, after one more
abbrev pub counted : PutOut → Idled → Idled
counted puts.Out n = record { out = n.out + 1; fault = n.fault; full = n.full }
counted puts.NotThere n = n
counted puts.Already n = n
counted puts.KeptFault n = record { out = n.out; fault = n.fault + 1; full = n.full }
counted puts.KeptFull n = record { out = n.out; fault = n.fault; full = n.full + 1 }

abbrev pub together : Idled → ℕ
together n = n.out + n.fault + n.full

-- what a device tells, and how many writes failed
pub record Device : Type 0 where
  pub told : Option Bytes
  pub faults : ℕ

-- One is put out, and counts.
pub record IsPutOne (who : Owner) (l : Live) (d : Device) (n : Idled) (l' : Live) (d' : Device) (n' : Idled) : Type 0 where
  pub answer : PutOut
  pub put : IsPut who l l' d'.told (Ok answer)
  pub faults : Counts (is_kept_fault (Ok answer)) d.faults d'.faults
  pub counts : n' ≡ counted answer n
  pub moved : together n' ≡ together n + 1

-- Each of some is put out, in their order.
abbrev pub ArePut : List Owner → Live → Device → Idled → Live → Device → Idled → Type 0
ArePut [] l d n l' d' n' = (l' ≡ l) × (d' ≡ d) × (n' ≡ n)
ArePut (x ∷ xs) l d n l' d' n' = (m : Live) × (e : Device) × (k : Idled) × IsPutOne x l d n m e k × ArePut xs m e k l' d' n'

-- where one goes it is put out, else nothing changes
abbrev pub IsTurn : Bool → Owner → Live → Device → Idled → Live → Device → Idled → Type 0
IsTurn true who l d n l' d' n' = IsPutOne who l d n l' d' n'
IsTurn false who l d n l' d' n' = (l' ≡ l) × (d' ≡ d) × (n' ≡ n)

-- nothing went yet
abbrev pub none_yet : Idled
none_yet = record { out = 0; fault = 0; full = 0 }

-- From a serial on the objects are as they were, and so are the versions and the clock.
pub record IsUntouched (n : ℕ) (old new : Live) : Type 0 where
  pub clock : new.clock ≡ old.clock
  pub length_is : length new.objects ≡ length old.objects
  pub objects : (m : ℕ) → n ≤ m → row_at new.objects m ≡ row_at old.objects m
  pub versions : new.versions ≡ old.versions

-- From a number on the versions are as they were, and so is the clock.
pub record AreUntouched (n : ℕ) (old new : Live) : Type 0 where
  pub clock : new.clock ≡ old.clock
  pub length_is : length new.versions ≡ length old.versions
  pub versions : (m : ℕ) → n ≤ m → row_at new.versions m ≡ row_at old.versions m
