-- What the device did, from one call to the next.
use Rattle.std.proofs.Common.{◌≡◌, ◌∙◌, ℕ, List, Option, Result, Ok, Err, IfErr, ap, refl, sym, subst}
use Rattle.std.specs.Prelude.{IsErrAnd}
use Rattle.lp_code.specs.declared.program.RawProgram.{RawProgram}
use Rattle.lp_swapfile.specs.Counts.{Counts}
use Rattle.lp_swapfile.specs.Device.{Bytes, Last}
use Rattle.lp_language.specs.World.{World}
use Rattle.lp_world.specs.declared.live.Live.{Live}
use Rattle.lp_world.specs.Stands.{Stands}
use Rattle.lp_residence.specs.Entering.{is_read_fault}
use Rattle.lp_residence.specs.declared.answers.EnterFault.{EnterFault}
use Rattle.lp_residence.specs.declared.answers.EnterFault.TheVariants as enter_faults
use Rattle.lp_residence.specs.declared.answers.SwapCause.TheVariants as swap_causes
use Rattle.lp_targets.specs.Brought.{Brings}
use Rattle.lp_vm.specs.declared.fault.VmFault.{VmFault}
use Rattle.lp_vm.specs.declared.fault.VmFault.TheVariants as vm_faults
use Rattle.lp_vm.specs.Causes.{IsReadless, Tells, read_fault, read_of}
use Rattle.lp_vm.specs.Making.{StandsForOne}
use Rattle.lp_beginning.specs.Beginning.{BringsFirst}
use Rattle.lp_vm.specs.Faults.{fault_of}

-- Nothing was read.
pub tells_nothing : (told : Option Bytes) (last : Last) (reads writes : ℕ) (true0 honest0 : Type 0) (live : Live) → Tells told last reads reads writes writes true0 true0 honest0 honest0 live (Ok tt)
tells_nothing told last reads writes true0 honest0 live = record { cause = tt; faults = refl; write_faults = refl; truthful = λ t. t; honest = λ h. (h, λ t. tt) }

-- What went well so far stays so in whatever state, ..
pub tells_still : {told : Option Bytes} {last : Last} {reads0 reads1 writes0 writes1 : ℕ} {true0 true1 honest0 honest1 : Type 0} {live : Live} → Tells told last reads0 reads1 writes0 writes1 true0 true1 honest0 honest1 live (Ok tt)
    → (live1 : Live) → Tells told last reads0 reads1 writes0 writes1 true0 true1 honest0 honest1 live1 (Ok tt)
tells_still h live1 = record { cause = tt; faults = h.faults; write_faults = h.write_faults; truthful = h.truthful; honest = h.honest }

-- .. also where a fault follows that no read has.
pub tells_readless : {told : Option Bytes} {last : Last} {reads0 reads1 writes0 writes1 : ℕ} {true0 true1 honest0 honest1 : Type 0} {live : Live} → Tells told last reads0 reads1 writes0 writes1 true0 true1 honest0 honest1 live (Ok tt)
    → (live1 : Live) (e : VmFault) → IsReadless e → Tells told last reads0 reads1 writes0 writes1 true0 true1 honest0 honest1 live1 (Err (read_fault e))
tells_readless {told = told} {last = last} {reads0 = reads0} {reads1 = reads1} {writes0 = writes0} {writes1 = writes1} {true0 = true0} {true1 = true1} {honest0 = honest0} {honest1 = honest1} h live1 e less =
    subst (λ x. Tells told last reads0 reads1 writes0 writes1 true0 true1 honest0 honest1 live1 (Err x)) (sym less) (record { cause = tt; faults = h.faults; write_faults = h.write_faults; truthful = h.truthful; honest = h.honest })

-- It stays so where all that can follow is want of memory.
pub tells_or_full : {A : Type 0} {told : Option Bytes} {last : Last} {reads0 reads1 writes0 writes1 : ℕ} {true0 true1 honest0 honest1 : Type 0} {live : Live} (r : Result A VmFault) → Tells told last reads0 reads1 writes0 writes1 true0 true1 honest0 honest1 live (Ok tt)
    → IfErr r (λ f. f ≡ vm_faults.NoMemory) → Tells told last reads0 reads1 writes0 writes1 true0 true1 honest0 honest1 live (read_of r)
tells_or_full (Ok x) h full = h
tells_or_full {live = live} (Err f) h full = tells_readless h live f (ap read_fault full)

-- One call after another.
pub tells_more : {told1 told2 : Option Bytes} {last1 last2 : Last} {reads0 reads1 reads2 writes0 writes1 writes2 : ℕ} {true0 true1 true2 honest0 honest1 honest2 : Type 0} {live1 live2 : Live} {r : Result (Unit {0}) EnterFault}
    → Tells told1 last1 reads0 reads1 writes0 writes1 true0 true1 honest0 honest1 live1 (Ok tt) → Tells told2 last2 reads1 reads2 writes1 writes2 true1 true2 honest1 honest2 live2 r
    → Tells told2 last2 reads0 reads2 writes0 writes2 true0 true2 honest0 honest2 live2 r
tells_more {reads2 = reads2} {r = r} h k = record {
  cause = k.cause;
  faults = subst (λ n. Counts (is_read_fault r) n reads2) h.faults k.faults;
  write_faults = k.write_faults ∙ h.write_faults;
  truthful = λ t. h.truthful (k.truthful t);
  honest = λ z. ((h.honest (k.honest z).0).0, (k.honest z).1);
}

-- What was brought in.
pub tells_brought : {A : Type 0} {told0 told1 : Option Bytes} {last : Last} {reads0 reads1 writes0 writes1 : ℕ} {true0 true1 honest0 honest1 : Type 0} {live0 live1 : Live} {x : A}
    → Brings told0 told1 last reads0 reads1 writes0 writes1 true0 true1 honest0 honest1 live0 live1 (Ok x) → Tells told1 last reads0 reads1 writes0 writes1 true0 true1 honest0 honest1 live1 (Ok tt)
tells_brought h = record { cause = tt; faults = h.faults; write_faults = h.write_faults; truthful = h.truthful; honest = λ z. ((h.honest z).0, λ t. tt) }

pub fault_same : (A : Type 0) (e : EnterFault) → is_read_fault {A = A} (Err e) ≡ is_read_fault {A = Unit {0}} (Err e)
fault_same A (enter_faults.Swap swap_causes.Read) = refl
fault_same A (enter_faults.Swap (swap_causes.Changed who found)) = refl
fault_same A enter_faults.NoMemory = refl

pub fault_kept : (e : EnterFault) → e ≡ read_fault (fault_of e)
fault_kept (enter_faults.Swap cause) = refl
fault_kept enter_faults.NoMemory = refl

-- or why it was not, where the state stood for a world
pub tells_fault : {A : Type 0} {told0 told1 : Option Bytes} {last : Last} {reads0 reads1 writes0 writes1 : ℕ} {true0 true1 honest0 honest1 : Type 0} {live0 live1 : Live} {e : EnterFault}
    → Brings {A = A} told0 told1 last reads0 reads1 writes0 writes1 true0 true1 honest0 honest1 live0 live1 (Err e) → (programs : List RawProgram) (w : World) → Stands told0 programs live0 w
    → Tells told1 last reads0 reads1 writes0 writes1 true0 true1 honest0 honest1 live1 (Err (read_fault (fault_of e)))
tells_fault {A = A} {told1 = told1} {last = last} {reads0 = reads0} {reads1 = reads1} {writes0 = writes0} {writes1 = writes1} {true0 = true0} {true1 = true1} {honest0 = honest0} {honest1 = honest1} {live1 = live1} {e = e} h programs w stands =
    subst (λ x. Tells told1 last reads0 reads1 writes0 writes1 true0 true1 honest0 honest1 live1 (Err x)) (fault_kept e)
    (record { cause = h.cause; faults = subst (λ b. Counts b reads0 reads1) (fault_same A e) h.faults; write_faults = h.write_faults; truthful = h.truthful; honest = λ z. ((h.honest z).0, λ t. (h.honest z).1 t programs w stands) })

-- The same where the state changed after what was brought, ..
pub tells_fault_first : {told0 told1 : Option Bytes} {last : Last} {reads0 reads1 writes0 writes1 : ℕ} {true0 true1 honest0 honest1 : Type 0} {live0 live1 : Live} (e : EnterFault)
    → BringsFirst told0 told1 last reads0 reads1 writes0 writes1 true0 true1 honest0 honest1 live0 live1 (Err e) → StandsForOne told0 live0
    → Tells told1 last reads0 reads1 writes0 writes1 true0 true1 honest0 honest1 live1 (Err (read_fault (fault_of e)))
tells_fault_first {told1 = told1} {last = last} {reads0 = reads0} {reads1 = reads1} {writes0 = writes0} {writes1 = writes1} {true0 = true0} {true1 = true1} {honest0 = honest0} {honest1 = honest1} (enter_faults.Swap cause) h stands =
    subst (λ l. Tells told1 last reads0 reads1 writes0 writes1 true0 true1 honest0 honest1 l (Err (enter_faults.Swap cause))) (sym h.still) (tells_fault h.brings stands.0 stands.1 stands.2)
tells_fault_first enter_faults.NoMemory h stands =
    let k = tells_fault h.brings stands.0 stands.1 stands.2 in
    record { cause = tt; faults = k.faults; write_faults = k.write_faults; truthful = k.truthful; honest = k.honest }

-- .. and where all was brought.
pub tells_brought_first : {told0 told1 : Option Bytes} {last : Last} {reads0 reads1 writes0 writes1 : ℕ} {true0 true1 honest0 honest1 : Type 0} {live0 live1 : Live} → BringsFirst told0 told1 last reads0 reads1 writes0 writes1 true0 true1 honest0 honest1 live0 live1 (Ok tt)
    → Tells told1 last reads0 reads1 writes0 writes1 true0 true1 honest0 honest1 live1 (Ok tt)
tells_brought_first {live1 = live1} h = tells_still (tells_brought h.brings) live1

-- a fault that is handed on
pub read_exit : {A : Type 0} (P : Result (Unit {0}) EnterFault → Type 0) (r : Result A VmFault) (f : VmFault) → IsErrAnd r (λ g. g ≡ f) → P (Err (read_fault f)) → P (read_of r)
read_exit P (Ok x) f e h = absurd e
read_exit P (Err g) f e h = subst (λ z. P (Err (read_fault z))) (sym e) h
