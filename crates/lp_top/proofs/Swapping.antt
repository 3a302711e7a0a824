-- What the swap file did, step by step.
use Rattle.std.proofs.Common.{subst, ap, inl, inr, ◌≡◌, ℕ, List, Bool, true, false, Option, refl}
use Rattle.std.specs.Prelude.{Ok, Err, Result}
use Rattle.lp_swapfile.specs.Counts.{Counts, Rose}
use Rattle.lp_swapfile.specs.Device.{Bytes, Last}
use Rattle.lp_residence.specs.declared.answers.EnterFault.{EnterFault}
use Rattle.lp_residence.specs.declared.answers.SwapCause.{SwapCause}
use Rattle.lp_residence.specs.declared.answers.SwapCause.TheVariants.{Read, Changed}
use Rattle.lp_world.specs.declared.live.Live.{Live}
use Rattle.lp_driver.specs.Tidying.{TurnTells}
use Rattle.lp_driver.specs.Causes.{Tells, read_fault}
use Rattle.lp_driver.specs.VmFault.{VmFault}
use Rattle.lp_driver.specs.VmFault.TheVariants as faults
use Rattle.lp_top.specs.declared.status.Status.{Status}
use Rattle.lp_top.specs.declared.status.Status.TheVariants as ends
use Rattle.lp_top.specs.Check.{IsCheckEnd}
use Rattle.lp_top.specs.Make.{IsMakeEnd}
use Rattle.lp_top.specs.Replay.{Concludes, Finishes, IsReadingEnd}
use Rattle.lp_top.specs.Causes.{SwapTells, IsHonestEnd, is_read_end, stop_status}

abbrev pub is_swap : Status → Bool
is_swap (ends.SwapFault cause) = true
is_swap ends.Done = false
is_swap ends.BadWords = false
is_swap (ends.FilesFault path) = false
is_swap ends.WireFault = false
is_swap ends.TurnsSpent = false
is_swap (ends.BadScript at) = false
is_swap (ends.NoMaster fs) = false
is_swap ends.TooLarge = false
is_swap ends.InputFault = false
is_swap ends.OutputFault = false
is_swap ends.NoMemory = false

-- the device was not touched
pub still-tells : (s : Status) (told : Option Bytes) (last : Last) (r : ℕ) (t h : Type 0) → is_swap s ≡ false → SwapTells s told last r r t t h h
still-tells ends.Done told last r t h e = record { cause = tt; faults = refl; truthful = λ x. x; honest = λ x. (x, λ y. tt) }
still-tells ends.BadWords told last r t h e = record { cause = tt; faults = refl; truthful = λ x. x; honest = λ x. (x, λ y. tt) }
still-tells (ends.FilesFault path) told last r t h e = record { cause = tt; faults = refl; truthful = λ x. x; honest = λ x. (x, λ y. tt) }
still-tells ends.WireFault told last r t h e = record { cause = tt; faults = refl; truthful = λ x. x; honest = λ x. (x, λ y. tt) }
still-tells ends.TurnsSpent told last r t h e = record { cause = tt; faults = refl; truthful = λ x. x; honest = λ x. (x, λ y. tt) }
still-tells (ends.BadScript at) told last r t h e = record { cause = tt; faults = refl; truthful = λ x. x; honest = λ x. (x, λ y. tt) }
still-tells (ends.NoMaster fs) told last r t h e = record { cause = tt; faults = refl; truthful = λ x. x; honest = λ x. (x, λ y. tt) }
still-tells ends.TooLarge told last r t h e = record { cause = tt; faults = refl; truthful = λ x. x; honest = λ x. (x, λ y. tt) }
still-tells ends.InputFault told last r t h e = record { cause = tt; faults = refl; truthful = λ x. x; honest = λ x. (x, λ y. tt) }
still-tells ends.OutputFault told last r t h e = record { cause = tt; faults = refl; truthful = λ x. x; honest = λ x. (x, λ y. tt) }
still-tells ends.NoMemory told last r t h e = record { cause = tt; faults = refl; truthful = λ x. x; honest = λ x. (x, λ y. tt) }
still-tells (ends.SwapFault cause) told last r t h e = absurd cc

-- one step after another, of which the first was carried out
pub then-tells : (s : Status) (told0 told1 : Option Bytes) (last0 last1 : Last) (r0 r1 r2 : ℕ) (t0 t1 t2 h0 h1 h2 : Type 0)
    → SwapTells ends.Done told0 last0 r0 r1 t0 t1 h0 h1 → SwapTells s told1 last1 r1 r2 t1 t2 h1 h2 → SwapTells s told1 last1 r0 r2 t0 t2 h0 h2
then-tells s told0 told1 last0 last1 r0 r1 r2 t0 t1 t2 h0 h1 h2 a b = record {
  cause = b.cause;
  faults = subst (λ n. Counts (is_read_end s) n r2) a.faults b.faults;
  truthful = λ x. a.truthful (b.truthful x);
  honest = λ x. let u = b.honest x in ((a.honest u.0).0, u.1);
}

-- an end that is no fault of the device, behind steps that were carried out
pub calm-tells : (s : Status) (told : Option Bytes) (last : Last) (r0 r1 : ℕ) (t0 t1 h0 h1 : Type 0) → is_swap s ≡ false → SwapTells ends.Done told last r0 r1 t0 t1 h0 h1 → SwapTells s told last r0 r1 t0 t1 h0 h1
calm-tells s told last r0 r1 t0 t1 h0 h1 e a = then-tells s told told last last r0 r1 r1 t0 t1 t1 h0 h1 h1 a (still-tells s told last r1 t1 h1 e)

-- a turn was carried out
pub turn-tells : (told : Option Bytes) (last : Last) (r0 r1 : ℕ) (t0 t1 h0 h1 : Type 0) (live : Live) → TurnTells told last r0 r1 t0 t1 h0 h1 live (Ok tt) → SwapTells ends.Done told last r0 r1 t0 t1 h0 h1
turn-tells told last r0 r1 t0 t1 h0 h1 live a = record { cause = tt; faults = a.faults; truthful = a.truthful; honest = λ x. ((a.honest x).0, λ y. tt) }

-- the start was carried out, or was not
pub begun-tells : {told : Option Bytes} {last : Last} {r0 r1 w0 w1 : ℕ} {t0 t1 h0 h1 : Type 0} {live : Live} {r : Result (Unit {0}) EnterFault} → Tells told last r0 r1 w0 w1 t0 t1 h0 h1 live r → TurnTells told last r0 r1 t0 t1 h0 h1 live r
begun-tells h = record { cause = h.cause; faults = h.faults; truthful = h.truthful; honest = h.honest }

-- a turn was not carried out
pub stop-tells : (e : VmFault) (told : Option Bytes) (last : Last) (r0 r1 : ℕ) (t0 t1 h0 h1 : Type 0) (live : Live) → TurnTells told last r0 r1 t0 t1 h0 h1 live (Err (read_fault e)) → SwapTells (stop_status e) told last r0 r1 t0 t1 h0 h1
stop-tells faults.NoMemory told last r0 r1 t0 t1 h0 h1 live a = record { cause = tt; faults = a.faults; truthful = a.truthful; honest = λ x. ((a.honest x).0, λ y. tt) }
stop-tells (faults.Swap Read) told last r0 r1 t0 t1 h0 h1 live a = record { cause = (live, a.cause); faults = a.faults; truthful = a.truthful; honest = a.honest }
stop-tells (faults.Swap (Changed owner found)) told last r0 r1 t0 t1 h0 h1 live a = record { cause = (live, a.cause); faults = a.faults; truthful = a.truthful; honest = a.honest }

-- a device that is honest and truthful, and of which no read failed, is not blamed
pub never-blamed : (s : Status) (told : Option Bytes) (last : Last) (r0 r1 : ℕ) (t0 t1 h0 h1 : Type 0) → SwapTells s told last r0 r1 t0 t1 h0 h1 → h1 → t1 → (Rose r0 r1 → ⊥) → (cause : SwapCause) → s ≡ ends.SwapFault cause → ⊥
never-blamed s told last r0 r1 t0 t1 h0 h1 a h t n Read e = n (subst (λ x. Counts (is_read_end x) r0 r1) e a.faults)
never-blamed s told last r0 r1 t0 t1 h0 h1 a h t n (Changed owner found) e = subst IsHonestEnd e ((a.honest h).1 t)

-- these ends are no faults of the device
pub reading-calm : (s : Status) → IsReadingEnd s → is_swap s ≡ false
reading-calm (ends.BadScript at) k = refl
reading-calm ends.TooLarge k = refl
reading-calm ends.InputFault k = refl
reading-calm ends.NoMemory k = refl
reading-calm ends.Done k = absurd k
reading-calm ends.BadWords k = absurd k
reading-calm (ends.FilesFault path) k = absurd k
reading-calm ends.WireFault k = absurd k
reading-calm ends.TurnsSpent k = absurd k
reading-calm (ends.NoMaster fs) k = absurd k
reading-calm ends.OutputFault k = absurd k
reading-calm (ends.SwapFault cause) k = absurd k

pub finish-calm : (last : List ℕ) (before after : Option (List ℕ)) (s : Status) → Finishes last before after s → is_swap s ≡ false
finish-calm last before after ends.Done i = refl
finish-calm last before after ends.OutputFault i = refl
finish-calm last before after ends.BadWords i = absurd i
finish-calm last before after (ends.FilesFault path) i = absurd i
finish-calm last before after ends.WireFault i = absurd i
finish-calm last before after ends.TurnsSpent i = absurd i
finish-calm last before after (ends.BadScript at) i = absurd i
finish-calm last before after (ends.NoMaster fs) i = absurd i
finish-calm last before after ends.TooLarge i = absurd i
finish-calm last before after ends.InputFault i = absurd i
finish-calm last before after (ends.SwapFault cause) i = absurd i
finish-calm last before after ends.NoMemory i = absurd i

pub conclude-calm : (report : Bool) (live : Live) (before after : Option (List ℕ)) (s : Status) → Concludes report live before after s → is_swap s ≡ false
conclude-calm report live before after s (inl k) = finish-calm _ before after s k.2
conclude-calm report live before after s (inr k) = ap is_swap k.0

pub check-calm : (s : Status) → IsCheckEnd s → is_swap s ≡ false
check-calm ends.Done i = refl
check-calm ends.OutputFault i = refl
check-calm ends.BadWords i = absurd i
check-calm (ends.FilesFault path) i = absurd i
check-calm ends.WireFault i = absurd i
check-calm ends.TurnsSpent i = absurd i
check-calm (ends.BadScript at) i = refl
check-calm (ends.NoMaster fs) i = absurd i
check-calm ends.TooLarge i = refl
check-calm ends.InputFault i = refl
check-calm (ends.SwapFault cause) i = absurd i
check-calm ends.NoMemory i = refl

pub make-calm : (s : Status) → IsMakeEnd s → is_swap s ≡ false
make-calm ends.Done i = refl
make-calm ends.OutputFault i = refl
make-calm ends.NoMemory i = refl
make-calm ends.BadWords i = absurd i
make-calm (ends.FilesFault path) i = absurd i
make-calm ends.WireFault i = absurd i
make-calm ends.TurnsSpent i = absurd i
make-calm (ends.BadScript at) i = absurd i
make-calm (ends.NoMaster fs) i = absurd i
make-calm ends.TooLarge i = absurd i
make-calm ends.InputFault i = absurd i
make-calm (ends.SwapFault cause) i = absurd i
