-- What the device did, from one call to the next.
use Rattle.std.proofs.Common.{◌≡◌, ◌∙◌, ℕ, List, Option, Result, Ok, Err, refl, sym, subst}
use Rattle.std.specs.Prelude.{IsErrAnd}
use Rattle.lp_code.specs.declared.program.RawProgram.{RawProgram}
use Rattle.lp_events.specs.declared.out.Out.{Out}
use Rattle.lp_swapfile.specs.Counts.{Counts}
use Rattle.lp_swapfile.specs.Device.{Bytes, Last}
use Rattle.lp_language.specs.World.{World}
use Rattle.lp_world.specs.declared.live.Live.{Live}
use Rattle.lp_world.specs.Stands.{Stands}
use Rattle.lp_residence.specs.Entering.{IsCausedBy, is_read_fault}
use Rattle.lp_residence.specs.Owners.{ticket_at}
use Rattle.lp_residence.specs.declared.answers.EnterFault.{EnterFault}
use Rattle.lp_residence.specs.declared.answers.EnterFault.TheVariants as enter_faults
use Rattle.lp_residence.specs.declared.answers.SwapCause.TheVariants as swap_causes
use Rattle.lp_residence.specs.declared.owner.Owner.{Owner}
use Rattle.lp_residence.specs.declared.owner.Owner.TheVariants as owners
use Rattle.lp_targets.specs.Brought.{Brings, IsFaultOf}
use Rattle.lp_vm.specs.declared.fault.VmFault.{VmFault}
use Rattle.lp_vm.specs.Causes.{IsReadless, Tells, read_fault, read_of}
use Rattle.lp_vm.specs.Faults.{fault_of}
use Rattle.lp_driver.specs.Tidying.{ReadsNothing, TurnTells}

-- Nothing was read.
pub tells_nothing : (told : Option Bytes) (last : Last) (reads writes : ℕ) (true0 honest0 : Type 0) (live : Live) → Tells told last reads reads writes writes true0 true0 honest0 honest0 live (Ok tt)
tells_nothing told last reads writes true0 honest0 live = record { cause = tt; faults = refl; write_faults = refl; truthful = λ t. t; honest = λ h. (h, λ t. tt) }

-- What went well so far stays so in whatever state, ..
pub tells_still : {told : Option Bytes} {last : Last} {reads0 reads1 writes0 writes1 : ℕ} {true0 true1 honest0 honest1 : Type 0} {live : Live} → Tells told last reads0 reads1 writes0 writes1 true0 true1 honest0 honest1 live (Ok tt)
    → (live1 : Live) → Tells told last reads0 reads1 writes0 writes1 true0 true1 honest0 honest1 live1 (Ok tt)
tells_still h live1 = record { cause = tt; faults = h.faults; write_faults = h.write_faults; truthful = h.truthful; honest = h.honest }

-- .. also where a fault follows that no read has.
pub tells_readless : {told : Option Bytes} {last : Last} {reads0 reads1 writes0 writes1 : ℕ} {true0 true1 honest0 honest1 : Type 0} {live : Live} → Tells told last reads0 reads1 writes0 writes1 true0 true1 honest0 honest1 live (Ok tt)
    → (live1 : Live) (e : VmFault) → IsReadless e → Tells told last reads0 reads1 writes0 writes1 true0 true1 honest0 honest1 live1 (Err (read_fault e))
tells_readless {told = told} {last = last} {reads0 = reads0} {reads1 = reads1} {writes0 = writes0} {writes1 = writes1} {true0 = true0} {true1 = true1} {honest0 = honest0} {honest1 = honest1} h live1 e less =
    subst (λ x. Tells told last reads0 reads1 writes0 writes1 true0 true1 honest0 honest1 live1 (Err x)) (sym less) (record { cause = tt; faults = h.faults; write_faults = h.write_faults; truthful = h.truthful; honest = h.honest })

-- One call after another.
pub tells_more : {told1 told2 : Option Bytes} {last1 last2 : Last} {reads0 reads1 reads2 writes0 writes1 writes2 : ℕ} {true0 true1 true2 honest0 honest1 honest2 : Type 0} {live1 live2 : Live} {r : Result (Unit {0}) EnterFault}
    → Tells told1 last1 reads0 reads1 writes0 writes1 true0 true1 honest0 honest1 live1 (Ok tt) → Tells told2 last2 reads1 reads2 writes1 writes2 true1 true2 honest1 honest2 live2 r
    → Tells told2 last2 reads0 reads2 writes0 writes2 true0 true2 honest0 honest2 live2 r
tells_more {reads2 = reads2} {r = r} h k = record {
  cause = k.cause;
  faults = subst (λ n. Counts (is_read_fault r) n reads2) h.faults k.faults;
  write_faults = k.write_faults ∙ h.write_faults;
  truthful = λ t. h.truthful (k.truthful t);
  honest = λ z. ((h.honest (k.honest z).0).0, (k.honest z).1);
}

-- What was brought in, where outputs came after that, ..
pub tells_brought : {A : Type 0} {told0 told1 : Option Bytes} {last : Last} {reads0 reads1 writes0 writes1 : ℕ} {true0 true1 honest0 honest1 : Type 0} {live0 live1 : Live} {x : A}
    → Brings told0 told1 last reads0 reads1 writes0 writes1 true0 true1 honest0 honest1 live0 live1 (Ok x) → (live2 : Live) → Tells told1 last reads0 reads1 writes0 writes1 true0 true1 honest0 honest1 live2 (Ok tt)
tells_brought h live2 = record { cause = tt; faults = h.faults; write_faults = h.write_faults; truthful = h.truthful; honest = λ z. ((h.honest z).0, λ t. tt) }

fault_same : (A : Type 0) (e : EnterFault) → is_read_fault {A = A} (Err e) ≡ is_read_fault {A = Unit {0}} (Err e)
fault_same A (enter_faults.Swap swap_causes.Read) = refl
fault_same A (enter_faults.Swap (swap_causes.Changed who found)) = refl
fault_same A enter_faults.NoMemory = refl

fault_kept : (e : EnterFault) → e ≡ read_fault (fault_of e)
fault_kept (enter_faults.Swap cause) = refl
fault_kept enter_faults.NoMemory = refl

-- what is out is the same whatever the outputs are
pub fault_told : (live : Live) (os : List Out) (told : Option Bytes) (last : Last) (e : EnterFault) → IsFaultOf (record live { outputs = os }) told last e → IsFaultOf live told last e
fault_told live os told last enter_faults.NoMemory h = tt
fault_told live os told last (enter_faults.Swap cause) h = by h.0 h.1
  where
    by : (who : Owner) → IsCausedBy who (ticket_at (record live { outputs = os }) who) told last (enter_faults.Swap cause) → IsFaultOf live told last (enter_faults.Swap cause)
    by (owners.Object o) c = (owners.Object o, c)
    by (owners.Program p) c = (owners.Program p, c)

-- .. or why it was not, where the state stood for a world
pub tells_fault : {A : Type 0} {told0 told1 : Option Bytes} {last : Last} {reads0 reads1 writes0 writes1 : ℕ} {true0 true1 honest0 honest1 : Type 0} {live0 live1 : Live} {os : List Out} {e : EnterFault}
    → Brings {A = A} told0 told1 last reads0 reads1 writes0 writes1 true0 true1 honest0 honest1 live0 (record live1 { outputs = os }) (Err e) → (programs : List RawProgram) (w : World) → Stands told0 programs live0 w
    → Tells told1 last reads0 reads1 writes0 writes1 true0 true1 honest0 honest1 live1 (Err (read_fault (fault_of e)))
tells_fault {A = A} {told1 = told1} {last = last} {reads0 = reads0} {reads1 = reads1} {writes0 = writes0} {writes1 = writes1} {true0 = true0} {true1 = true1} {honest0 = honest0} {honest1 = honest1} {live1 = live1} {os = os} {e = e} h programs w stands =
    subst (λ x. Tells told1 last reads0 reads1 writes0 writes1 true0 true1 honest0 honest1 live1 (Err x)) (fault_kept e)
    (record { cause = fault_told live1 os told1 last e h.cause; faults = subst (λ b. Counts b reads0 reads1) (fault_same A e) h.faults; write_faults = h.write_faults; truthful = h.truthful; honest = λ z. ((h.honest z).0, λ t. (h.honest z).1 t programs w stands) })

-- a fault that is handed on
pub read_exit : {A : Type 0} (P : Result (Unit {0}) EnterFault → Type 0) (r : Result A VmFault) (f : VmFault) → IsErrAnd r (λ g. g ≡ f) → P (Err (read_fault f)) → P (read_of r)
read_exit P (Ok x) f e h = absurd e
read_exit P (Err g) f e h = subst (λ z. P (Err (read_fault z))) (sym e) h

-- a turn that was carried out, or was not
pub turn_tells : {told : Option Bytes} {last : Last} {reads0 reads1 writes0 writes1 : ℕ} {true0 true1 honest0 honest1 : Type 0} {live : Live} {r : Result (Unit {0}) EnterFault} → Tells told last reads0 reads1 writes0 writes1 true0 true1 honest0 honest1 live r
    → TurnTells told last reads0 reads1 true0 true1 honest0 honest1 live r
turn_tells h = record { cause = h.cause; faults = h.faults; truthful = h.truthful; honest = h.honest }

-- and what goes out behind it
pub behind_ok : {told1 told2 : Option Bytes} {last1 last2 : Last} {reads0 reads1 reads2 writes0 writes1 : ℕ} {true0 true1 true2 honest0 honest1 honest2 : Type 0} {live1 live2 : Live}
    → Tells told1 last1 reads0 reads1 writes0 writes1 true0 true1 honest0 honest1 live1 (Ok tt) → ReadsNothing reads1 reads2 true1 true2 honest1 honest2 → TurnTells told2 last2 reads0 reads2 true0 true2 honest0 honest2 live2 (Ok tt)
behind_ok h k = record { cause = tt; faults = k.faults ∙ h.faults; truthful = λ t. h.truthful (k.truthful t); honest = λ z. ((h.honest (k.honest z)).0, λ t. tt) }

pub behind_memory : {told1 told2 : Option Bytes} {last1 last2 : Last} {reads0 reads1 reads2 writes0 writes1 : ℕ} {true0 true1 true2 honest0 honest1 honest2 : Type 0} {live1 live2 : Live}
    → Tells told1 last1 reads0 reads1 writes0 writes1 true0 true1 honest0 honest1 live1 (Ok tt) → ReadsNothing reads1 reads2 true1 true2 honest1 honest2 → TurnTells told2 last2 reads0 reads2 true0 true2 honest0 honest2 live2 (Err enter_faults.NoMemory)
behind_memory h k = record { cause = tt; faults = k.faults ∙ h.faults; truthful = λ t. h.truthful (k.truthful t); honest = λ z. ((h.honest (k.honest z)).0, λ t. tt) }
