-- What the device did while a clone was made, and why one was refused.
use Rattle.std.proofs.Common.{◌≡◌, ◌∙◌, ℕ, List, Option, Result, Ok, Err, IfErr, IsSome, refl, sym, subst}
use Rattle.std.specs.Prelude.{IsErrAnd}
use Rattle.lp_code.specs.declared.program.RawProgram.{RawProgram}
use Rattle.lp_swapfile.specs.Counts.{Counts}
use Rattle.lp_swapfile.specs.Device.{Bytes, Last}
use Rattle.lp_language.specs.World.{World, object_named}
use Rattle.lp_meaning.specs.FileLoads.{clone_name, with_clone_number}
use Rattle.lp_world.specs.declared.live.Live.{Live}
use Rattle.lp_world.specs.Stands.{Stands}
use Rattle.lp_residence.specs.Entering.{is_read_fault}
use Rattle.lp_residence.specs.declared.answers.EnterFault.{EnterFault}
use Rattle.lp_residence.specs.declared.answers.EnterFault.TheVariants as enters
use Rattle.lp_targets.specs.Brought.{Brings, IsFaultOf}
use Rattle.lp_targets.proofs.Memory.{brings_err}
use Rattle.lp_beginning.specs.declared.fault.MakingFault.{MakingFault}
use Rattle.lp_beginning.specs.declared.fault.MakingFault.TheVariants as makings
use Rattle.lp_beginning.specs.Beginning as making_of
use Rattle.lp_beginning.specs.Beginning.{BringsFirst, StandsStill}
use Rattle.lp_cloning.specs.declared.fault.CloningFault.{CloningFault}
use Rattle.lp_cloning.specs.declared.fault.CloningFault.TheVariants as faults
use Rattle.lp_cloning.specs.Faults.{IsNoMemory, IsTakenFor, Tells, brought_as, brought_by, entered_as, made_as}
use Rattle.lp_cloning.proofs.Cloned.{Numbers}

-- Nothing was read, ..
pub tells_none : {live1 : Live} (told : Option Bytes) (last : Last) (reads writes : ℕ) (truth honest : Type 0) (live : Live) → Tells told told last reads reads writes writes truth truth honest honest live live1 (Ok tt)
tells_none told last reads writes truth honest live = record { cause = tt; faults = refl; write_faults = refl; kept = refl; truthful = λ t. t; honest = λ h. (h, λ t programs w s. tt) }

-- .. and memory ran out, ..
pub tells_no_memory : {live1 : Live} (told : Option Bytes) (last : Last) (reads writes : ℕ) (truth honest : Type 0) (live : Live) → Tells told told last reads reads writes writes truth truth honest honest live live1 (Err enters.NoMemory)
tells_no_memory told last reads writes truth honest live = record { cause = tt; faults = refl; write_faults = refl; kept = refl; truthful = λ t. t; honest = λ h. (h, λ t programs w s. tt) }

pub tells_want : {live1 : Live} (told : Option Bytes) (last : Last) (reads writes : ℕ) (truth honest : Type 0) (live : Live) (f : CloningFault) → IsNoMemory f → Tells told told last reads reads writes writes truth truth honest honest live live1 (brought_as f)
tells_want {live1 = live1} told last reads writes truth honest live f i =
    subst (λ x. Tells told told last reads reads writes writes truth truth honest honest live live1 (brought_as x)) (sym i) (tells_no_memory told last reads writes truth honest live)

-- .. or one of both.
pub tells_either : {B : Type 0} {live1 : Live} (told : Option Bytes) (last : Last) (reads writes : ℕ) (truth honest : Type 0) (live : Live) (r : Result B CloningFault) → IfErr r IsNoMemory
    → Tells told told last reads reads writes writes truth truth honest honest live live1 (brought_by r)
tells_either told last reads writes truth honest live (Ok x) i = tells_none told last reads writes truth honest live
tells_either told last reads writes truth honest live (Err f) i = tells_want told last reads writes truth honest live f i

-- a fault that is handed on
pub err_want : {B : Type 0} (r : Result B CloningFault) → IsErrAnd r IsNoMemory → IfErr r IsNoMemory
err_want (Ok x) h = absurd h
err_want (Err f) h = h

pub taken_want : {B : Type 0} (told : Option Bytes) (live : Live) (name : World → List ℕ) (r : Result B CloningFault) → IfErr r IsNoMemory → IfErr r (IsTakenFor told live name)
taken_want told live name (Ok x) i = tt
taken_want told live name (Err f) i = subst (IsTakenFor told live name) (sym i) tt

-- What was brought into memory before something else was done.
pub tells_first : {told0 told1 : Option Bytes} {last : Last} {reads0 reads1 writes0 writes1 : ℕ} {true0 true1 honest0 honest1 : Type 0} {live0 live1 : Live} (r : Result (Unit {0}) EnterFault)
    → BringsFirst told0 told1 last reads0 reads1 writes0 writes1 true0 true1 honest0 honest1 live0 live1 r → Tells told0 told1 last reads0 reads1 writes0 writes1 true0 true1 honest0 honest1 live0 live1 r
tells_first (Ok x) h = record { cause = tt; faults = h.brings.faults; write_faults = h.brings.write_faults; kept = h.brings.kept; truthful = h.brings.truthful; honest = h.brings.honest }
tells_first {told1 = told1} {last = last} (Err (enters.Swap cause)) h =
    record { cause = subst (λ l. IsFaultOf l told1 last (enters.Swap cause)) (sym h.still) h.brings.cause; faults = h.brings.faults; write_faults = h.brings.write_faults; kept = h.brings.kept; truthful = h.brings.truthful; honest = h.brings.honest }
tells_first (Err enters.NoMemory) h = record { cause = tt; faults = h.brings.faults; write_faults = h.brings.write_faults; kept = h.brings.kept; truthful = h.brings.truthful; honest = h.brings.honest }

same_made : (e : MakingFault) → making_of.brought_as e ≡ brought_as (made_as e)
same_made makings.NameTaken = refl
same_made (makings.Swap cause) = refl
same_made makings.NoMemory = refl

-- or why no object was made
pub tells_made : {told0 told1 : Option Bytes} {last : Last} {reads0 reads1 writes0 writes1 : ℕ} {true0 true1 honest0 honest1 : Type 0} {live0 live1 : Live} (e : MakingFault) (f : CloningFault) → f ≡ made_as e
    → BringsFirst told0 told1 last reads0 reads1 writes0 writes1 true0 true1 honest0 honest1 live0 live1 (making_of.brought_as e) → Tells told0 told1 last reads0 reads1 writes0 writes1 true0 true1 honest0 honest1 live0 live1 (brought_as f)
tells_made {told0 = told0} {told1 = told1} {last = last} {reads0 = reads0} {reads1 = reads1} {writes0 = writes0} {writes1 = writes1} {true0 = true0} {true1 = true1} {honest0 = honest0} {honest1 = honest1} {live0 = live0} {live1 = live1} e f is h =
    subst (λ x. Tells told0 told1 last reads0 reads1 writes0 writes1 true0 true1 honest0 honest1 live0 live1 (brought_as x)) (sym is)
    (subst (Tells told0 told1 last reads0 reads1 writes0 writes1 true0 true1 honest0 honest1 live0 live1) (same_made e) (tells_first (making_of.brought_as e) h))

pub taken_made : (told : Option Bytes) (live : Live) (name : List ℕ) (e : MakingFault) (f : CloningFault) → f ≡ made_as e → making_of.IsRefusedFor told live name e → IsTakenFor told live (λ w. name) f
taken_made told live name e f is h = subst (IsTakenFor told live (λ w. name)) (sym is) (by e h)
  where
    by : (e : MakingFault) → making_of.IsRefusedFor told live name e → IsTakenFor told live (λ w. name) (made_as e)
    by makings.NameTaken h = h
    by (makings.Swap cause) h = tt
    by makings.NoMemory h = tt

-- Something was not brought into memory.
pub tells_entered : {A : Type 0} {told0 told1 : Option Bytes} {last : Last} {reads0 reads1 writes0 writes1 : ℕ} {true0 true1 honest0 honest1 : Type 0} {live0 live1 : Live} (e : EnterFault) (f : CloningFault) → f ≡ entered_as e
    → Brings {A = A} told0 told1 last reads0 reads1 writes0 writes1 true0 true1 honest0 honest1 live0 live1 (Err e) → Tells told0 told1 last reads0 reads1 writes0 writes1 true0 true1 honest0 honest1 live0 live1 (brought_as f)
tells_entered {told0 = told0} {told1 = told1} {last = last} {reads0 = reads0} {reads1 = reads1} {writes0 = writes0} {writes1 = writes1} {true0 = true0} {true1 = true1} {honest0 = honest0} {honest1 = honest1} {live0 = live0} {live1 = live1} e f is h =
    subst (λ x. Tells told0 told1 last reads0 reads1 writes0 writes1 true0 true1 honest0 honest1 live0 live1 (brought_as x)) (sym is) (by e (brings_err h))
  where
    by : (e : EnterFault) → Brings {A = Unit {0}} told0 told1 last reads0 reads1 writes0 writes1 true0 true1 honest0 honest1 live0 live1 (Err e) → Tells told0 told1 last reads0 reads1 writes0 writes1 true0 true1 honest0 honest1 live0 live1 (brought_as (entered_as e))
    by (enters.Swap cause) b = record { cause = b.cause; faults = b.faults; write_faults = b.write_faults; kept = b.kept; truthful = b.truthful; honest = b.honest }
    by enters.NoMemory b = record { cause = tt; faults = b.faults; write_faults = b.write_faults; kept = b.kept; truthful = b.truthful; honest = b.honest }

pub taken_entered : (told : Option Bytes) (live : Live) (name : World → List ℕ) (e : EnterFault) (f : CloningFault) → f ≡ entered_as e → IsTakenFor told live name f
taken_entered told live name e f is = subst (IsTakenFor told live name) (sym is) (by e)
  where
    by : (e : EnterFault) → IsTakenFor told live name (entered_as e)
    by (enters.Swap cause) = tt
    by enters.NoMemory = tt

-- Something was brought into memory first.
pub tells_then : {A : Type 0} {told0 told1 told2 : Option Bytes} {last1 last2 : Last} {reads0 reads1 reads2 writes0 writes1 writes2 : ℕ} {true0 true1 true2 honest0 honest1 honest2 : Type 0} {live0 live1 live2 : Live} {x : A} {r : Result (Unit {0}) EnterFault}
    → Brings {A = A} told0 told1 last1 reads0 reads1 writes0 writes1 true0 true1 honest0 honest1 live0 live1 (Ok x)
    → (true1 → (programs : List RawProgram) (w : World) → Stands told0 programs live0 w → Stands told1 programs live1 w)
    → Tells told1 told2 last2 reads1 reads2 writes1 writes2 true1 true2 honest1 honest2 live1 live2 r → Tells told0 told2 last2 reads0 reads2 writes0 writes2 true0 true2 honest0 honest2 live0 live2 r
tells_then {reads2 = reads2} {r = r} h s k = record {
  cause = k.cause;
  faults = subst (λ n. Counts (is_read_fault r) n reads2) h.faults k.faults;
  write_faults = k.write_faults ∙ h.write_faults;
  kept = k.kept ∙ h.kept;
  truthful = λ t. h.truthful (k.truthful t);
  honest = λ z. ((h.honest (k.honest z).0).0, λ t programs w g. (k.honest z).1 t programs w (s (k.truthful t) programs w g));
}

pub taken_still : {B : Type 0} (told0 told1 : Option Bytes) (live0 live1 : Live) (name : World → List ℕ) (r : Result B CloningFault) → StandsStill told0 live0 told1 live1 → IfErr r (IsTakenFor told1 live1 name) → IfErr r (IsTakenFor told0 live0 name)
taken_still told0 told1 live0 live1 name (Ok x) s h = tt
taken_still told0 told1 live0 live1 name (Err faults.NameTaken) s h = λ programs w g. h programs w (s programs w g)
taken_still told0 told1 live0 live1 name (Err (faults.Swap cause)) s h = tt
taken_still told0 told1 live0 live1 name (Err faults.NoMemory) s h = tt

-- A number was given first.
pub tells_numbered : {told1 : Option Bytes} {last : Last} {reads0 reads1 writes0 writes1 : ℕ} {true0 true1 honest0 honest1 : Type 0} {live2 : Live} {r : Result (Unit {0}) EnterFault} (told0 : Option Bytes) (live0 live1 : Live) (name full : List ℕ) → Numbers told0 live0 live1 name full
    → Tells told0 told1 last reads0 reads1 writes0 writes1 true0 true1 honest0 honest1 live1 live2 r → Tells told0 told1 last reads0 reads1 writes0 writes1 true0 true1 honest0 honest1 live0 live2 r
tells_numbered told0 live0 live1 name full n k = record {
  cause = k.cause;
  faults = k.faults;
  write_faults = k.write_faults;
  kept = k.kept;
  truthful = k.truthful;
  honest = λ z. ((k.honest z).0, λ t programs w g. (k.honest z).1 t programs (with_clone_number w) (n.stands programs w g));
}

pub taken_numbered : {B : Type 0} (told : Option Bytes) (live0 live1 : Live) (name full : List ℕ) (r : Result B CloningFault) → Numbers told live0 live1 name full → IfErr r (IsTakenFor told live1 (λ w. full)) → IfErr r (IsTakenFor told live0 (λ w. clone_name w name))
taken_numbered told live0 live1 name full (Ok x) n h = tt
taken_numbered told live0 live1 name full (Err faults.NameTaken) n h = λ programs w g. subst (λ z. IsSome (object_named w z)) (n.called programs w g) (h programs (with_clone_number w) (n.stands programs w g))
taken_numbered told live0 live1 name full (Err (faults.Swap cause)) n h = tt
taken_numbered told live0 live1 name full (Err faults.NoMemory) n h = tt
