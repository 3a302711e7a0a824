-- What was brought into memory for a load, from one call to the next.
use Rattle.std.proofs.Common.{◌≡◌, ◌∙◌, ◌++◌, ◌∷◌, ℕ, List, [], Option, Some, None, Result, Ok, Err, IfErr, refl, ap, sym, subst, unwrap_or, slice_get}
use Rattle.std.specs.Prelude.{IsErrAnd}
use Rattle.lp_code.specs.declared.program.RawProgram.{RawProgram}
use Rattle.lp_language.specs.World as world
use Rattle.lp_swapfile.specs.Device.{Bytes, Last}
use Rattle.lp_residence.specs.declared.answers.EnterFault.{EnterFault}
use Rattle.lp_residence.specs.declared.answers.EnterFault.TheVariants as enters
use Rattle.lp_part_laws.proofs.Lists.{within}
use Rattle.lp_targets.specs.Brought.{Brings, StaysInMemory}
use Rattle.lp_targets.proofs.Memory.{brings_more, brings_no_memory, brings_ok, same_object, same_version, stays_more, stays_same}
use Rattle.lp_world.specs.declared.live.Live.{Live}
use Rattle.lp_world.specs.declared.versions.Version.{Version}
use Rattle.lp_world.specs.Additions.{with_new_version}
use Rattle.lp_world.specs.Rows.{version_state}
use Rattle.lp_residence.specs.Owners.{program_of}
use Rattle.lp_making.specs.Versions.{StandsWithVersion}
use Rattle.lp_meaning.specs.WorldSteps.{with_new_version as with_more}
use Rattle.lp_beginning.specs.Beginning as objects
use Rattle.lp_beginning.specs.Beginning.{BringsFirst, OnSwap, StandsStill}
use Rattle.lp_beginning.specs.declared.fault.MakingFault.{MakingFault}
use Rattle.lp_beginning.specs.declared.fault.MakingFault.TheVariants as makings
use Rattle.lp_loading.specs.Telling.{IsDeviceless, StandsFor, brought_as, brought_by, fault_of}
use Rattle.lp_loading.specs.Steps.{fault_of as refused_as}
use Rattle.lp_loading.specs.declared.job.LoadFault.{LoadFault}
use Rattle.lp_loading.specs.declared.job.LoadFault.TheVariants as faults

-- Nothing was read.
pub none_brought : (told : Option Bytes) (last : Last) (reads writes : ℕ) (truth honest : Type 0) (live : Live) → Brings {A = Unit {0}} told told last reads reads writes writes truth truth honest honest live live (Ok tt)
none_brought told last reads writes truth honest live = record { stays = stays_same live; cause = tt; faults = refl; write_faults = refl; kept = refl; truthful = λ t. t; honest = λ h. (h, λ t programs w s. tt) }

-- What was brought so far stays so, where no fault follows that a read has.
pub fault_still : {told0 told1 : Option Bytes} {last : Last} {reads0 reads1 writes0 writes1 : ℕ} {true0 true1 honest0 honest1 : Type 0} {old mid : Live} (new : Live) (f : LoadFault)
    → Brings {A = Unit {0}} told0 told1 last reads0 reads1 writes0 writes1 true0 true1 honest0 honest1 old mid (Ok tt) → StaysInMemory mid new → IsDeviceless f
    → Brings told0 told1 last reads0 reads1 writes0 writes1 true0 true1 honest0 honest1 old new (brought_as f)
fault_still new (faults.Swap cause) h s i = absurd i
fault_still new faults.NoMemory h s i = brings_no_memory (brings_ok {B = Unit {0}} {y = tt} h s)

pub brought_still : {A : Type 0} {told0 told1 : Option Bytes} {last : Last} {reads0 reads1 writes0 writes1 : ℕ} {true0 true1 honest0 honest1 : Type 0} {old mid : Live} (new : Live) (r : Result A LoadFault)
    → Brings {A = Unit {0}} told0 told1 last reads0 reads1 writes0 writes1 true0 true1 honest0 honest1 old mid (Ok tt) → StaysInMemory mid new → IfErr r IsDeviceless
    → Brings told0 told1 last reads0 reads1 writes0 writes1 true0 true1 honest0 honest1 old new (brought_by r)
brought_still new (Ok x) h s i = brings_ok h s
brought_still new (Err f) h s i = fault_still new f h s i

pub none_failed : (told : Option Bytes) (last : Last) (reads writes : ℕ) (truth honest : Type 0) (live : Live) (f : LoadFault) → IsDeviceless f
    → Brings told told last reads reads writes writes truth truth honest honest live live (brought_as f)
none_failed told last reads writes truth honest live f i = fault_still live f (none_brought told last reads writes truth honest live) (stays_same live) i

nothing_brought : {A : Type 0} (told : Option Bytes) (last : Last) (reads writes : ℕ) (truth honest : Type 0) (live : Live) (r : Result A LoadFault) → IfErr r IsDeviceless
    → Brings told told last reads reads writes writes truth truth honest honest live live (brought_by r)
nothing_brought told last reads writes truth honest live r i = brought_still live r (none_brought told last reads writes truth honest live) (stays_same live) i

-- One call after another.
pub brought_more : {told0 told1 told2 : Option Bytes} {last1 last2 : Last} {reads0 reads1 reads2 writes0 writes1 writes2 : ℕ} {true0 true1 true2 honest0 honest1 honest2 : Type 0} {old mid new : Live} {r : Result (Unit {0}) EnterFault}
    → Brings {A = Unit {0}} told0 told1 last1 reads0 reads1 writes0 writes1 true0 true1 honest0 honest1 old mid (Ok tt) → (true1 → StandsStill told0 old told1 mid)
    → Brings {A = Unit {0}} told1 told2 last2 reads1 reads2 writes1 writes2 true1 true2 honest1 honest2 mid new r
    → Brings {A = Unit {0}} told0 told2 last2 reads0 reads2 writes0 writes2 true0 true2 honest0 honest2 old new r
brought_more h s k = brings_more h s k

-- and where it stands
pub stands_more : {told0 told1 told2 : Option Bytes} {old mid new : Live} → StandsStill told0 old told1 mid → StandsStill told1 mid told2 new → StandsStill told0 old told2 new
stands_more s k programs w h = k programs w (s programs w h)

-- a fault that is handed on
pub exit : {A : Type 0} (P : Result (Unit {0}) EnterFault → Type 0) (r : Result A LoadFault) (f : LoadFault) → IsErrAnd r (λ g. g ≡ f) → P (brought_as f) → P (brought_by r)
exit P (Ok x) f e h = absurd e
exit P (Err g) f e h = subst (λ z. P (brought_as z)) (sym e) h

-- as why a program was not brought in
abbrev pub entered_as : EnterFault → Result (Unit {0}) EnterFault
entered_as e = Err e

pub fault_brought : (e : EnterFault) → entered_as e ≡ brought_as (fault_of e)
fault_brought (enters.Swap cause) = refl
fault_brought enters.NoMemory = refl

-- Before something else changes

on_swap_same : {P : Type 0} (r : Result (Unit {0}) EnterFault) → P → OnSwap r P
on_swap_same (Ok x) p = tt
on_swap_same (Err (enters.Swap cause)) p = p
on_swap_same (Err enters.NoMemory) p = tt

on_fault : (P : Type 0) (f : LoadFault) → IsDeviceless f → OnSwap (brought_as f) P
on_fault P (faults.Swap cause) i = absurd i
on_fault P faults.NoMemory i = tt

on_deviceless : {A : Type 0} (P : Type 0) (r : Result A LoadFault) → IfErr r IsDeviceless → OnSwap (brought_by r) P
on_deviceless P (Ok x) i = tt
on_deviceless P (Err f) i = on_fault P f i

-- nothing is read at all, whatever changes
pub first_none : (told : Option Bytes) (last : Last) (reads writes : ℕ) (truth honest : Type 0) (live new : Live) → BringsFirst told told last reads reads writes writes truth truth honest honest live new (Ok tt)
first_none told last reads writes truth honest live new = record { between = live; brings = none_brought told last reads writes truth honest live; still = tt }

pub first_failed : (told : Option Bytes) (last : Last) (reads writes : ℕ) (truth honest : Type 0) (live new : Live) (f : LoadFault) → IsDeviceless f → BringsFirst told told last reads reads writes writes truth truth honest honest live new (brought_as f)
first_failed told last reads writes truth honest live new f i = record { between = live; brings = none_failed told last reads writes truth honest live f i; still = on_fault (new ≡ live) f i }

pub first_nothing : {A : Type 0} (told : Option Bytes) (last : Last) (reads writes : ℕ) (truth honest : Type 0) (live new : Live) (r : Result A LoadFault) → IfErr r IsDeviceless
    → BringsFirst told told last reads reads writes writes truth truth honest honest live new (brought_by r)
first_nothing told last reads writes truth honest live new r i = record { between = live; brings = nothing_brought told last reads writes truth honest live r i; still = on_deviceless (new ≡ live) r i }

-- what is brought is all
pub first_alone : {told0 told1 : Option Bytes} {last : Last} {reads0 reads1 writes0 writes1 : ℕ} {true0 true1 honest0 honest1 : Type 0} {old new : Live} {r : Result (Unit {0}) EnterFault}
    → Brings {A = Unit {0}} told0 told1 last reads0 reads1 writes0 writes1 true0 true1 honest0 honest1 old new r → BringsFirst told0 told1 last reads0 reads1 writes0 writes1 true0 true1 honest0 honest1 old new r
first_alone {new = new} {r = r} h = record { between = new; brings = h; still = on_swap_same r refl }

-- more is brought after that
pub first_after : {told0 told1 told2 : Option Bytes} {last1 last2 : Last} {reads0 reads1 reads2 writes0 writes1 writes2 : ℕ} {true0 true1 true2 honest0 honest1 honest2 : Type 0} {old mid new : Live} {r : Result (Unit {0}) EnterFault}
    → Brings {A = Unit {0}} told0 told1 last1 reads0 reads1 writes0 writes1 true0 true1 honest0 honest1 old mid (Ok tt) → (true1 → StandsStill told0 old told1 mid)
    → BringsFirst told1 told2 last2 reads1 reads2 writes1 writes2 true1 true2 honest1 honest2 mid new r
    → BringsFirst told0 told2 last2 reads0 reads2 writes0 writes2 true0 true2 honest0 honest2 old new r
first_after h s k = record { between = k.between; brings = brought_more h s k.brings; still = k.still }

-- and where the state changed before, without a device
pub first_changed : {told0 told1 : Option Bytes} {last : Last} {reads0 reads1 writes0 writes1 : ℕ} {true0 true1 honest0 honest1 : Type 0} {old mid new : Live} {r : Result (Unit {0}) EnterFault} → StaysInMemory old mid → StandsFor old mid
    → BringsFirst told0 told1 last reads0 reads1 writes0 writes1 true0 true1 honest0 honest1 mid new r → BringsFirst told0 told1 last reads0 reads1 writes0 writes1 true0 true1 honest0 honest1 old new r
first_changed {told0 = told0} {old = old} {mid = mid} s m k = record {
  between = k.between;
  brings = record {
    stays = stays_more old mid k.between s k.brings.stays;
    cause = k.brings.cause;
    faults = k.brings.faults;
    write_faults = k.brings.write_faults;
    kept = k.brings.kept;
    truthful = k.brings.truthful;
    honest = λ z. ((k.brings.honest z).0, λ t programs w h. let x = m told0 programs w h in (k.brings.honest z).1 t x.0 x.1 x.2);
  };
  still = k.still;
}

-- as why no object was made
pub refusal_brought : {told0 told1 : Option Bytes} {last : Last} {reads0 reads1 writes0 writes1 : ℕ} {true0 true1 honest0 honest1 : Type 0} {old new : Live} (e : MakingFault)
    → BringsFirst told0 told1 last reads0 reads1 writes0 writes1 true0 true1 honest0 honest1 old new (objects.brought_as e)
    → BringsFirst told0 told1 last reads0 reads1 writes0 writes1 true0 true1 honest0 honest1 old new (brought_as (refused_as e))
refusal_brought makings.NameTaken h = record { between = h.between; brings = brings_no_memory h.brings; still = tt }
refusal_brought (makings.Swap cause) h = h
refusal_brought makings.NoMemory h = h

-- A version more

row_before : (xs : List (Option Version)) (x : Option Version) (k : ℕ) (q : Option (Option Version)) (v : Version) → slice_get xs k ≡ q → unwrap_or q None ≡ Some v → unwrap_or (slice_get (xs ++ x ∷ []) k) None ≡ Some v
row_before xs x k None v e l = cc
row_before xs x k (Some y) v e l = ap (λ o. unwrap_or o None) (within xs (x ∷ []) k y e) ∙ l

program_before : (xs : List (Option Version)) (x : Option Version) (k : ℕ) (q : Option (Option Version)) (raw : RawProgram) → slice_get xs k ≡ q → program_of (version_state (unwrap_or q None)) ≡ Some raw → program_of (version_state (unwrap_or (slice_get (xs ++ x ∷ []) k) None)) ≡ Some raw
program_before xs x k None raw e l = cc
program_before xs x k (Some y) raw e l = ap (λ o. program_of (version_state (unwrap_or o None))) (within xs (x ∷ []) k y e) ∙ l

pub version_stays : (old new : Live) (v : Version) → new ≡ with_new_version old v → StaysInMemory old new
version_stays old new v e = subst (StaysInMemory old) (sym e) (record {
  others = refl;
  objects = λ n x h. (x, h, same_object x);
  versions = λ n u h. (u, row_before old.versions (Some v) n (slice_get old.versions n) u refl h, same_version u);
  variables = λ o vs h. h;
  programs = λ p raw h. program_before old.versions (Some v) p.0 (slice_get old.versions p.0) raw refl h;
})

pub version_stands : (old new : Live) (file : List ℕ) (p : RawProgram) → StandsWithVersion old new file p → StandsFor old new
version_stands old new file p s told programs w h =
    let v : world.Version = record { path = file; items = []; parents = p.tables.parents; pragmas = p.tables.pragmas; simuls = []; latest = w.clock } in
    (programs ++ p ∷ [], with_more w v, s told programs w v h (record { path = refl; parents = refl; latest = refl }), refl)
