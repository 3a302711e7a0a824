-- What serving comes to, by how the game that was hosted ended.
use Rattle.std.proofs.Common.{◌≡◌, ◌∙◌, ℕ, ◌⊎◌, inl, inr, List, Bool, true, false, Option, refl, sym, ap, subst, String}
use Rattle.std.specs.declared.alloc.Global.{Global}
use Rattle.lp_io.specs.Counts.{Counts, Rose}
use Rattle.lp_files.specs.declared.store.Store.{Store}
use Rattle.lp_folder.specs.Held.{Held}
use Rattle.lp_recording.specs.Recorded.{ending}
use Rattle.lp_recording.specs.declared.recording.Keeps.{Keeps}
use Rattle.lp_swapfile.specs.Device.{Bytes, Last}
use Rattle.lp_wire.specs.declared.happening.WireCall.{WireCall}
use Rattle.lp_residence.specs.declared.answers.SwapCause.TheVariants.{Read, Changed}
use Rattle.lp_serving.specs.Causes.{OutputTells}
use Rattle.lp_host.specs.Causes.{HasNoMaster, IsInOrder, IsNoMaster, NothingFailed, is_output_end, is_wire_end, BlamesFiles as BlamesHeld, SwapTells as HostTells}
use Rattle.lp_host.specs.Hosting.{AsHosted, IsHosted}
use Rattle.lp_host.specs.declared.run.Hosted.{Hosted}
use Rattle.lp_host.specs.declared.run.Hosted.TheVariants as hosted
use Rattle.lp_serve_words.specs.declared.words.Serving.{Serving}
use Rattle.lp_top.specs.declared.status.Status.{Status}
use Rattle.lp_top.specs.declared.status.Status.TheVariants as ends
use Rattle.lp_top.specs.Causes.{BlamesFiles, BlamesOutput, SwapTells, is_wire_fault}
use Rattle.lp_top.specs.Serves.{HandsOn, IsServeEnd, IsServedInOrder, Serves, keeps_with, status_of_end}

abbrev is_output : Status → Bool
is_output ends.OutputFault = true
is_output s = false

-- the tests of an end are those of its status
output-end : (e : Hosted) → is_output (status_of_end e) ≡ is_output_end e
output-end hosted.Done = refl
output-end (hosted.NoMaster faults) = refl
output-end hosted.OutputFault = refl
output-end (hosted.SwapFault cause) = refl
output-end (hosted.FilesFault path) = refl
output-end hosted.WireFault = refl
output-end hosted.TurnsSpent = refl
output-end hosted.NoMemory = refl

wire-end : (e : Hosted) → is_wire_fault (status_of_end e) ≡ is_wire_end e
wire-end hosted.Done = refl
wire-end (hosted.NoMaster faults) = refl
wire-end hosted.OutputFault = refl
wire-end (hosted.SwapFault cause) = refl
wire-end (hosted.FilesFault path) = refl
wire-end hosted.WireFault = refl
wire-end hosted.TurnsSpent = refl
wire-end hosted.NoMemory = refl

kind-end : (e : Hosted) → IsServeEnd (status_of_end e)
kind-end hosted.Done = tt
kind-end (hosted.NoMaster faults) = tt
kind-end hosted.OutputFault = tt
kind-end (hosted.SwapFault cause) = tt
kind-end (hosted.FilesFault path) = tt
kind-end hosted.WireFault = tt
kind-end hosted.TurnsSpent = tt
kind-end hosted.NoMemory = tt

order-end : (e : Hosted) → IsInOrder e → IsServedInOrder (status_of_end e)
order-end hosted.Done h = tt
order-end (hosted.NoMaster faults) h = tt
order-end hosted.OutputFault h = absurd h
order-end (hosted.SwapFault cause) h = absurd h
order-end (hosted.FilesFault path) h = absurd h
order-end hosted.WireFault h = absurd h
order-end hosted.TurnsSpent h = tt
order-end hosted.NoMemory h = tt

files-end : (e : Hosted) (m n : ℕ) → BlamesHeld e m n → BlamesFiles (status_of_end e) m n
files-end hosted.Done m n h = tt
files-end (hosted.NoMaster faults) m n h = tt
files-end hosted.OutputFault m n h = tt
files-end (hosted.SwapFault cause) m n h = tt
files-end (hosted.FilesFault path) m n h = h
files-end hosted.WireFault m n h = tt
files-end hosted.TurnsSpent m n h = tt
files-end hosted.NoMemory m n h = tt

swap-end : (e : Hosted) (told : Option Bytes) (last : Last) (r0 r1 : ℕ) (t0 t1 h0 h1 : Type 0) → HostTells e told last r0 r1 t0 t1 h0 h1 → SwapTells (status_of_end e) told last r0 r1 t0 t1 h0 h1
swap-end hosted.Done told last r0 r1 t0 t1 h0 h1 a = record { cause = a.cause; faults = a.faults; truthful = a.truthful; honest = a.honest }
swap-end (hosted.NoMaster faults) told last r0 r1 t0 t1 h0 h1 a = record { cause = a.cause; faults = a.faults; truthful = a.truthful; honest = a.honest }
swap-end hosted.OutputFault told last r0 r1 t0 t1 h0 h1 a = record { cause = a.cause; faults = a.faults; truthful = a.truthful; honest = a.honest }
swap-end (hosted.SwapFault Read) told last r0 r1 t0 t1 h0 h1 a = record { cause = a.cause; faults = a.faults; truthful = a.truthful; honest = a.honest }
swap-end (hosted.SwapFault (Changed owner found)) told last r0 r1 t0 t1 h0 h1 a = record { cause = a.cause; faults = a.faults; truthful = a.truthful; honest = a.honest }
swap-end (hosted.FilesFault path) told last r0 r1 t0 t1 h0 h1 a = record { cause = a.cause; faults = a.faults; truthful = a.truthful; honest = a.honest }
swap-end hosted.WireFault told last r0 r1 t0 t1 h0 h1 a = record { cause = a.cause; faults = a.faults; truthful = a.truthful; honest = a.honest }
swap-end hosted.TurnsSpent told last r0 r1 t0 t1 h0 h1 a = record { cause = a.cause; faults = a.faults; truthful = a.truthful; honest = a.honest }
swap-end hosted.NoMemory told last r0 r1 t0 t1 h0 h1 a = record { cause = a.cause; faults = a.faults; truthful = a.truthful; honest = a.honest }

-- what was promised of the end is so of its status
pub ended-kind : (s : Status) (e : Hosted) → s ≡ status_of_end e → IsServeEnd s
ended-kind s e is = subst IsServeEnd (sym is) (kind-end e)

pub ended-output : (s : Status) (e : Hosted) (f0 f1 z0 z1 : ℕ) → s ≡ status_of_end e → OutputTells (is_output_end e) f0 f1 z0 z1 → BlamesOutput s f0 f1 z0 z1
ended-output s e f0 f1 z0 z1 is h o = subst (λ b. OutputTells b f0 f1 z0 z1) (sym (output-end e) ∙ ap is_output (sym is ∙ o)) h

pub ended-files : (s : Status) (e : Hosted) (m n : ℕ) → s ≡ status_of_end e → BlamesHeld e m n → BlamesFiles s m n
ended-files s e m n is h = subst (λ x. BlamesFiles x m n) (sym is) (files-end e m n h)

pub ended-wire : (s : Status) (e : Hosted) (m n : ℕ) → s ≡ status_of_end e → Counts (is_wire_end e) m n → Counts (is_wire_fault s) m n
ended-wire s e m n is h = subst (λ b. Counts b m n) (sym (wire-end e) ∙ ap is_wire_fault (sym is)) h

pub ended-swap : (s : Status) (e : Hosted) (told : Option Bytes) (last : Last) (r0 r1 : ℕ) (t0 t1 h0 h1 : Type 0) → s ≡ status_of_end e → HostTells e told last r0 r1 t0 t1 h0 h1 → SwapTells s told last r0 r1 t0 t1 h0 h1
ended-swap s e told last r0 r1 t0 t1 h0 h1 is h = subst (λ x. SwapTells x told last r0 r1 t0 t1 h0 h1) (sym is) (swap-end e told last r0 r1 t0 t1 h0 h1 h)

pub ended-order : (s : Status) (e : Hosted) → s ≡ status_of_end e → IsInOrder e → IsServedInOrder s
ended-order s e is h = subst IsServedInOrder (sym is) (order-end e h)

pub ended-not-done : (s : Status) (e : Hosted) → s ≡ status_of_end e → (e ≡ hosted.Done → ⊥) → s ≡ ends.Done → ⊥
ended-not-done s hosted.Done is n d = n refl
ended-not-done s (hosted.NoMaster faults) is n d = let h = sym is ∙ d in absurd cc
ended-not-done s hosted.OutputFault is n d = let h = sym is ∙ d in absurd cc
ended-not-done s (hosted.SwapFault cause) is n d = let h = sym is ∙ d in absurd cc
ended-not-done s (hosted.FilesFault path) is n d = let h = sym is ∙ d in absurd cc
ended-not-done s hosted.WireFault is n d = let h = sym is ∙ d in absurd cc
ended-not-done s hosted.TurnsSpent is n d = let h = sym is ∙ d in absurd cc
ended-not-done s hosted.NoMemory is n d = let h = sym is ∙ d in absurd cc

-- the game was hosted, with a record or a log
abbrev pub HostedSo : Serving → Keeps → Option Held → ℕ → Option (List ℕ) → Option (List ℕ) → Option (List WireCall) → Option (List WireCall) → (Option (String Global) → Store → Type 0) → Type 0 → Hosted → Type 0
HostedSo serving k held opening before now told0 told1 left unserved e = AsHosted e (λ bytes stops polls files. IsHosted serving.seed k held opening before now bytes stops polls files told0 told1) left unserved (ending k) serving.turns

pub ended-serves : (s : Status) (e : Hosted) (serving : Serving) (k : Keeps) (held : Option Held) (opening : ℕ) (before now : Option (List ℕ)) (told0 told1 : Option (List WireCall)) (left : Option (String Global) → Store → Type 0) (unserved : Type 0)
    → s ≡ status_of_end e → k ≡ keeps_with serving.record_file → HostedSo serving k held opening before now told0 told1 left unserved e → IsNoMaster e (HasNoMaster serving.seed opening held) unserved
    → Serves serving held opening before now told0 told1 left unserved s
ended-serves s e serving k held opening before now told0 told1 left unserved is keeps h none =
    record { end = e; is = is; hosted = subst (λ x. HostedSo serving x held opening before now told0 told1 left unserved e) keeps h; no_master = none }

-- the operator stopped the game, and what was written was handed on, or not
pub done-kind : (s : Status) (m n : ℕ) → HandsOn s m n → IsServeEnd s
done-kind s m n (inl h) = subst IsServeEnd (sym h.0) tt
done-kind s m n (inr h) = subst IsServeEnd (sym h.0) tt

stopped-output : (s : Status) (f0 f1 f2 z0 z1 z2 : ℕ) → OutputTells false f0 f1 z0 z1 → HandsOn s f1 f2 → BlamesOutput s f0 f2 z0 z2
stopped-output s f0 f1 f2 z0 z1 z2 e (inl h) o = let k : false ≡ true = ap is_output (sym h.0 ∙ o) in absurd cc
stopped-output s f0 f1 f2 z0 z1 z2 e (inr h) o = inl (subst (λ n. Rose n f2) e.0 h.1)

pub done-output : (s : Status) (e : Hosted) (f0 f1 f2 z0 z1 z2 : ℕ) → e ≡ hosted.Done → OutputTells (is_output_end e) f0 f1 z0 z1 → HandsOn s f1 f2 → BlamesOutput s f0 f2 z0 z2
done-output s e f0 f1 f2 z0 z1 z2 is t h = stopped-output s f0 f1 f2 z0 z1 z2 (subst (λ x. OutputTells (is_output_end x) f0 f1 z0 z1) is t) h

pub done-files : (s : Status) (f1 f2 m n : ℕ) → HandsOn s f1 f2 → BlamesFiles s m n
done-files s f1 f2 m n (inl h) = subst (λ x. BlamesFiles x m n) (sym h.0) tt
done-files s f1 f2 m n (inr h) = subst (λ x. BlamesFiles x m n) (sym h.0) tt

stopped-wire : (s : Status) (f1 f2 m n : ℕ) → n ≡ m → HandsOn s f1 f2 → Counts (is_wire_fault s) m n
stopped-wire s f1 f2 m n e (inl h) = subst (λ x. Counts (is_wire_fault x) m n) (sym h.0) e
stopped-wire s f1 f2 m n e (inr h) = subst (λ x. Counts (is_wire_fault x) m n) (sym h.0) e

pub done-wire : (s : Status) (e : Hosted) (f1 f2 m n : ℕ) → e ≡ hosted.Done → Counts (is_wire_end e) m n → HandsOn s f1 f2 → Counts (is_wire_fault s) m n
done-wire s e f1 f2 m n is t h = stopped-wire s f1 f2 m n (subst (λ x. Counts (is_wire_end x) m n) is t) h

stopped-swap : (s : Status) (f1 f2 : ℕ) (told : Option Bytes) (last : Last) (r0 r1 : ℕ) (t0 t1 h0 h1 : Type 0) → HandsOn s f1 f2 → HostTells hosted.Done told last r0 r1 t0 t1 h0 h1 → SwapTells s told last r0 r1 t0 t1 h0 h1
stopped-swap s f1 f2 told last r0 r1 t0 t1 h0 h1 (inl h) a = ended-swap s hosted.Done told last r0 r1 t0 t1 h0 h1 h.0 a
stopped-swap s f1 f2 told last r0 r1 t0 t1 h0 h1 (inr h) a = ended-swap s hosted.OutputFault told last r0 r1 t0 t1 h0 h1 h.0 (record { cause = tt; faults = a.faults; truthful = a.truthful; honest = a.honest })

pub done-swap : (s : Status) (e : Hosted) (f1 f2 : ℕ) (told : Option Bytes) (last : Last) (r0 r1 : ℕ) (t0 t1 h0 h1 : Type 0) → e ≡ hosted.Done → HandsOn s f1 f2 → HostTells e told last r0 r1 t0 t1 h0 h1 → SwapTells s told last r0 r1 t0 t1 h0 h1
done-swap s e f1 f2 told last r0 r1 t0 t1 h0 h1 is h a = stopped-swap s f1 f2 told last r0 r1 t0 t1 h0 h1 h (subst (λ x. HostTells x told last r0 r1 t0 t1 h0 h1) is a)

stopped-order : (s : Status) (f0 f1 f2 z0 z1 : ℕ) → OutputTells false f0 f1 z0 z1 → HandsOn s f1 f2 → (Rose f0 f2 → ⊥) → IsServedInOrder s
stopped-order s f0 f1 f2 z0 z1 e (inl h) n = subst IsServedInOrder (sym h.0) tt
stopped-order s f0 f1 f2 z0 z1 e (inr h) n = absurd (n (subst (λ x. Rose x f2) e.0 h.1))

pub done-order : (s : Status) (e : Hosted) (f0 f1 f2 z0 z1 : ℕ) → e ≡ hosted.Done → OutputTells (is_output_end e) f0 f1 z0 z1 → HandsOn s f1 f2 → (Rose f0 f2 → ⊥) → IsServedInOrder s
done-order s e f0 f1 f2 z0 z1 is t h n = stopped-order s f0 f1 f2 z0 z1 (subst (λ x. OutputTells (is_output_end x) f0 f1 z0 z1) is t) h n

stopped-serves : (s : Status) (f1 f2 : ℕ) (serving : Serving) (k : Keeps) (held : Option Held) (opening : ℕ) (before now now2 : Option (List ℕ)) (told0 told1 : Option (List WireCall)) (left : Option (String Global) → Store → Type 0) (other unserved : Type 0)
    → HandsOn s f1 f2 → now2 ≡ now → k ≡ keeps_with serving.record_file → HostedSo serving k held opening before now told0 told1 left other hosted.Done
    → Serves serving held opening before now2 told0 told1 left unserved s
stopped-serves s f1 f2 serving k held opening before now now2 told0 told1 left other unserved (inl h) e keeps a =
    ended-serves s hosted.Done serving k held opening before now2 told0 told1 left unserved h.0 keeps (subst (λ x. HostedSo serving k held opening before x told0 told1 left unserved hosted.Done) (sym e) a) tt
stopped-serves s f1 f2 serving k held opening before now now2 told0 told1 left other unserved (inr h) e keeps a =
    record { end = hosted.OutputFault; is = h.0; hosted = tt; no_master = tt }

pub done-serves : (s : Status) (e : Hosted) (f1 f2 : ℕ) (serving : Serving) (k : Keeps) (held : Option Held) (opening : ℕ) (before now now2 : Option (List ℕ)) (told0 told1 : Option (List WireCall)) (left : Option (String Global) → Store → Type 0) (other unserved : Type 0)
    → e ≡ hosted.Done → HandsOn s f1 f2 → now2 ≡ now → k ≡ keeps_with serving.record_file → HostedSo serving k held opening before now told0 told1 left other e
    → Serves serving held opening before now2 told0 told1 left unserved s
done-serves s e f1 f2 serving k held opening before now now2 told0 told1 left other unserved is h kept keeps a =
    stopped-serves s f1 f2 serving k held opening before now now2 told0 told1 left other unserved h kept keeps (subst (HostedSo serving k held opening before now told0 told1 left other) is a)

-- an end that is no fault of the files or of the wire
pub not-files : (s : Status) (m n : ℕ) → ((path : String Global) → s ≡ ends.FilesFault path → ⊥) → BlamesFiles s m n
not-files ends.Done m n h = tt
not-files ends.BadWords m n h = tt
not-files (ends.BadScript at) m n h = tt
not-files (ends.NoMaster faults) m n h = tt
not-files ends.TooLarge m n h = tt
not-files ends.InputFault m n h = tt
not-files ends.OutputFault m n h = tt
not-files (ends.SwapFault cause) m n h = tt
not-files (ends.FilesFault path) m n h = absurd (h path refl)
not-files ends.WireFault m n h = tt
not-files ends.TurnsSpent m n h = tt
not-files ends.NoMemory m n h = tt

pub not-wire : (s : Status) (m : ℕ) → (s ≡ ends.WireFault → ⊥) → Counts (is_wire_fault s) m m
not-wire ends.Done m h = refl
not-wire ends.BadWords m h = refl
not-wire (ends.BadScript at) m h = refl
not-wire (ends.NoMaster faults) m h = refl
not-wire ends.TooLarge m h = refl
not-wire ends.InputFault m h = refl
not-wire ends.OutputFault m h = refl
not-wire (ends.SwapFault cause) m h = refl
not-wire (ends.FilesFault path) m h = refl
not-wire ends.WireFault m h = absurd (h refl)
not-wire ends.TurnsSpent m h = refl
not-wire ends.NoMemory m h = refl
