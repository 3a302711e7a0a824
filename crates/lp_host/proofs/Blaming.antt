-- Which device an end of a hosted game blames.
use Rattle.std.proofs.Common.{subst, ◌≡◌, ℕ, List, [], Bool, true, false, Option, Some, None, Result, Ok, Err, String, IfErr, refl, sym, ◌∙◌, ◌⊎◌, inl, inr}
use Rattle.std.specs.Global.{Global}
use Rattle.lp_files.specs.declared.store.Store.{Store}
use Rattle.lp_first.specs.First.{HasFiles}
use Rattle.lp_folder.specs.Held as held
use Rattle.lp_folder.specs.declared.outside.FilesError.{FilesError}
use Rattle.lp_folder.specs.declared.outside.FilesError.TheVariants as errors
use Rattle.lp_front_end.specs.FrontEnds.{IsFrontEnd}
use Rattle.lp_io.specs.Counts.{Counts, Rose}
use Rattle.lp_language.specs.World.{File}
use Rattle.lp_meaning.specs.Closing.{MakesNoMaster}
use Rattle.lp_meaning.specs.FrontEnd.{FrontEnd}
use Rattle.lp_tree.specs.declared.fault.Fault.{Fault}
use Rattle.lp_swapfile.specs.Counts as swap
use Rattle.lp_swapfile.specs.Device.{Bytes, Last}
use Rattle.lp_core.specs.declared.driver.Stop.{Stop}
use Rattle.lp_core.specs.declared.driver.Stop.TheVariants as stops
use Rattle.lp_driver.specs.Driving.{HasNoMasterIf, StartTells, start_answer}
use Rattle.lp_driver.specs.Tidying.{TurnTells}
use Rattle.lp_driver.specs.VmFault.TheVariants as driver
use Rattle.lp_driver.specs.declared.driver.StartFault.{StartFault}
use Rattle.lp_driver.specs.declared.driver.StartFault.TheVariants as start
use Rattle.lp_residence.specs.declared.answers.SwapCause.{SwapCause}
use Rattle.lp_residence.specs.declared.answers.SwapCause.TheVariants.{Read, Changed}
use Rattle.lp_serve.specs.declared.run.Served.{Served}
use Rattle.lp_serve.specs.declared.run.Served.TheVariants as served
use Rattle.lp_serve.specs.Causes as ends
use Rattle.lp_serving.specs.Causes.{OutputTells}
use Rattle.lp_state.specs.Faults.{read_fault}
use Rattle.lp_state.specs.declared.fault.TurnFault.{TurnFault}
use Rattle.lp_state.specs.declared.fault.TurnFault.TheVariants as faults
use Rattle.lp_world.specs.declared.live.Live.{Live}
use Rattle.lp_host.specs.Causes.{BlamesFiles, IsInOrder, IsNoMaster, IsQuiet, NothingFailed, SwapTells, is_output_end, is_read_end, is_wire_end}
use Rattle.lp_host.specs.Hosting.{IsUnloaded, ended_of, hosted_of, stopped_of, unstarted_of}
use Rattle.lp_host.specs.declared.run.Hosted.{Hosted}
use Rattle.lp_host.specs.declared.run.Hosted.TheVariants.{Done, NoMaster, OutputFault, SwapFault, FilesFault, WireFault, TurnsSpent, NoMemory}

-- The swap file

pub quiet_self : (reads : ℕ) (truthful honest : Type 0) → IsQuiet reads reads truthful truthful honest honest
quiet_self reads truthful honest = record { faults = refl; truthful = λ t. t; honest = λ h. h }

module _ {told : Option Bytes} {last : Last} {r0 r1 r2 : ℕ} {t0 t1 t2 h0 h1 h2 : Type 0} where
  -- a turn that was carried out
  pub quiet_more : (live : Live) → IsQuiet r0 r1 t0 t1 h0 h1 → TurnTells told last r1 r2 t1 t2 h1 h2 live (Ok tt) → IsQuiet r0 r2 t0 t2 h0 h2
  quiet_more live q t = record { faults = t.faults ∙ q.faults; truthful = λ y. q.truthful (t.truthful y); honest = λ y. q.honest (t.honest y).0 }

  pub quiet_then : (end : Hosted) → IsQuiet r0 r1 t0 t1 h0 h1 → SwapTells end told last r1 r2 t1 t2 h1 h2 → SwapTells end told last r0 r2 t0 t2 h0 h2
  quiet_then end q s = record {
    cause = s.cause;
    faults = subst (λ (r : ℕ). swap.Counts (is_read_end end) r r2) q.faults s.faults;
    truthful = λ y. q.truthful (s.truthful y);
    honest = λ y. let p = s.honest y in (q.honest p.0, p.1);
  }

module _ {told : Option Bytes} {last : Last} {r0 r1 : ℕ} {t0 t1 h0 h1 : Type 0} where
  -- a turn that was not carried out
  pub turn_blames : (f : TurnFault) (live : Live) → TurnTells told last r0 r1 t0 t1 h0 h1 live (Err (read_fault f)) → SwapTells (ended_of f) told last r0 r1 t0 t1 h0 h1
  turn_blames faults.HasFailed live t = record { cause = tt; faults = t.faults; truthful = t.truthful; honest = λ y. ((t.honest y).0, λ z. tt) }
  turn_blames faults.NoMemory live t = record { cause = tt; faults = t.faults; truthful = t.truthful; honest = λ y. ((t.honest y).0, λ z. tt) }
  turn_blames (faults.Swap Read) live t = record { cause = (live, t.cause); faults = t.faults; truthful = t.truthful; honest = t.honest }
  turn_blames (faults.Swap (Changed owner found)) live t = record { cause = (live, t.cause); faults = t.faults; truthful = t.truthful; honest = t.honest }

  -- the start
  pub start_quiet : {w0 w1 : ℕ} → StartTells told last r0 r1 w0 w1 t0 t1 h0 h1 (Ok tt) → IsQuiet r0 r1 t0 t1 h0 h1
  start_quiet s = record { faults = s.1.faults; truthful = s.1.truthful; honest = λ y. (s.1.honest y).0 }

  pub start_blames : {w0 w1 : ℕ} (f : StartFault) → StartTells told last r0 r1 w0 w1 t0 t1 h0 h1 (start_answer {A = Unit {0}} (Err f)) → SwapTells (unstarted_of f) told last r0 r1 t0 t1 h0 h1
  start_blames (start.NoMaster fs) s = record { cause = tt; faults = s.1.faults; truthful = s.1.truthful; honest = λ y. ((s.1.honest y).0, λ z. tt) }
  start_blames (start.Stopped driver.NoMemory) s = record { cause = tt; faults = s.1.faults; truthful = s.1.truthful; honest = λ y. ((s.1.honest y).0, λ z. tt) }
  start_blames (start.Stopped (driver.Swap Read)) s = record { cause = (s.0, s.1.cause); faults = s.1.faults; truthful = s.1.truthful; honest = s.1.honest }
  start_blames (start.Stopped (driver.Swap (Changed owner found))) s = record { cause = (s.0, s.1.cause); faults = s.1.faults; truthful = s.1.truthful; honest = s.1.honest }

  -- an end at which no turn was stopped
  quiet_done : IsQuiet r0 r1 t0 t1 h0 h1 → SwapTells Done told last r0 r1 t0 t1 h0 h1
  quiet_done q = record { cause = tt; faults = q.faults; truthful = q.truthful; honest = λ y. (q.honest y, λ z. tt) }

  pub quiet_output : IsQuiet r0 r1 t0 t1 h0 h1 → SwapTells OutputFault told last r0 r1 t0 t1 h0 h1
  quiet_output q = record { cause = tt; faults = q.faults; truthful = q.truthful; honest = λ y. (q.honest y, λ z. tt) }

  pub hosted_swap : (s : Served) (cause : Option SwapCause) → ends.SwapTells s (IsQuiet r0 r1 t0 t1 h0 h1) (λ why. SwapTells (stopped_of why cause) told last r0 r1 t0 t1 h0 h1) → SwapTells (hosted_of s cause) told last r0 r1 t0 t1 h0 h1
  hosted_swap served.Done cause q = quiet_done q
  hosted_swap served.OutputFault cause q = quiet_output q
  hosted_swap (served.FilesFault path) cause q = record { cause = tt; faults = q.faults; truthful = q.truthful; honest = λ y. (q.honest y, λ z. tt) }
  hosted_swap served.WireFault cause q = record { cause = tt; faults = q.faults; truthful = q.truthful; honest = λ y. (q.honest y, λ z. tt) }
  hosted_swap served.TurnsSpent cause q = record { cause = tt; faults = q.faults; truthful = q.truthful; honest = λ y. (q.honest y, λ z. tt) }
  hosted_swap (served.Stopped why) cause q = q
  hosted_swap served.NoMemory cause q = record { cause = tt; faults = q.faults; truthful = q.truthful; honest = λ y. (q.honest y, λ z. tt) }

-- The other devices

stopped_output : (why : Stop) (cause : Option SwapCause) (f z : ℕ) → is_output_end (stopped_of why cause) ≡ false
stopped_output stops.NoMemory cause f z = refl
stopped_output stops.Swap (Some cause) f z = refl
stopped_output stops.Swap None f z = refl

stopped_wire : (why : Stop) (cause : Option SwapCause) → is_wire_end (stopped_of why cause) ≡ false
stopped_wire stops.NoMemory cause = refl
stopped_wire stops.Swap (Some cause) = refl
stopped_wire stops.Swap None = refl

stopped_files : (why : Stop) (cause : Option SwapCause) (a b : ℕ) → BlamesFiles (stopped_of why cause) a b
stopped_files stops.NoMemory cause a b = tt
stopped_files stops.Swap (Some cause) a b = tt
stopped_files stops.Swap None a b = tt

stopped_master : (why : Stop) (cause : Option SwapCause) (has : List Fault → Type 0) (unserved : Type 0) → IsNoMaster (stopped_of why cause) has unserved
stopped_master stops.NoMemory cause has unserved = tt
stopped_master stops.Swap (Some cause) has unserved = tt
stopped_master stops.Swap None has unserved = tt

pub hosted_output : (s : Served) (cause : Option SwapCause) (f0 f1 z0 z1 : ℕ) → OutputTells (ends.is_output_fault s) f0 f1 z0 z1 → OutputTells (is_output_end (hosted_of s cause)) f0 f1 z0 z1
hosted_output served.Done cause f0 f1 z0 z1 t = t
hosted_output served.OutputFault cause f0 f1 z0 z1 t = t
hosted_output (served.FilesFault path) cause f0 f1 z0 z1 t = t
hosted_output served.WireFault cause f0 f1 z0 z1 t = t
hosted_output served.TurnsSpent cause f0 f1 z0 z1 t = t
hosted_output (served.Stopped why) cause f0 f1 z0 z1 t = subst (λ (b : Bool). OutputTells b f0 f1 z0 z1) (sym (stopped_output why cause f0 z0)) t
hosted_output served.NoMemory cause f0 f1 z0 z1 t = t

pub hosted_wire : (s : Served) (cause : Option SwapCause) (n0 n1 : ℕ) → Counts (ends.is_wire_fault s) n0 n1 → Counts (is_wire_end (hosted_of s cause)) n0 n1
hosted_wire served.Done cause n0 n1 t = t
hosted_wire served.OutputFault cause n0 n1 t = t
hosted_wire (served.FilesFault path) cause n0 n1 t = t
hosted_wire served.WireFault cause n0 n1 t = t
hosted_wire served.TurnsSpent cause n0 n1 t = t
hosted_wire (served.Stopped why) cause n0 n1 t = subst (λ (b : Bool). Counts b n0 n1) (sym (stopped_wire why cause)) t
hosted_wire served.NoMemory cause n0 n1 t = t

pub hosted_files : (s : Served) (cause : Option SwapCause) (tried : Option (String Global) → Type 0) (a b : ℕ) → ends.FilesTell s tried (Rose a b) → BlamesFiles (hosted_of s cause) a b
hosted_files served.Done cause tried a b t = tt
hosted_files served.OutputFault cause tried a b t = tt
hosted_files (served.FilesFault path) cause tried a b t = t.1
hosted_files served.WireFault cause tried a b t = tt
hosted_files served.TurnsSpent cause tried a b t = tt
hosted_files (served.Stopped why) cause tried a b t = stopped_files why cause a b
hosted_files served.NoMemory cause tried a b t = tt

pub hosted_master : (s : Served) (cause : Option SwapCause) (has : List Fault → Type 0) (unserved : Type 0) → IsNoMaster (hosted_of s cause) has unserved
hosted_master served.Done cause has unserved = tt
hosted_master served.OutputFault cause has unserved = tt
hosted_master (served.FilesFault path) cause has unserved = tt
hosted_master served.WireFault cause has unserved = tt
hosted_master served.TurnsSpent cause has unserved = tt
hosted_master (served.Stopped why) cause has unserved = stopped_master why cause has unserved
hosted_master served.NoMemory cause has unserved = tt

pub master_as : (s : Hosted) (has has1 : List Fault → Type 0) (unserved unserved1 : Type 0) → ((fs : List Fault) → has fs → has1 fs) → (unserved → unserved1) → IsNoMaster s has unserved → IsNoMaster s has1 unserved1
master_as Done has has1 unserved unserved1 f u m = tt
master_as (NoMaster faults) has has1 unserved unserved1 f u m = (f faults.items m.0, u m.1)
master_as OutputFault has has1 unserved unserved1 f u m = tt
master_as (SwapFault cause) has has1 unserved unserved1 f u m = tt
master_as (FilesFault path) has has1 unserved unserved1 f u m = tt
master_as WireFault has has1 unserved unserved1 f u m = tt
master_as TurnsSpent has has1 unserved unserved1 f u m = tt
master_as NoMemory has has1 unserved unserved1 f u m = tt

-- A start that was not carried out

pub unstarted_output : (f : StartFault) (a z : ℕ) → OutputTells (is_output_end (unstarted_of f)) a a z z
unstarted_output (start.NoMaster fs) a z = (refl, refl)
unstarted_output (start.Stopped driver.NoMemory) a z = (refl, refl)
unstarted_output (start.Stopped (driver.Swap cause)) a z = (refl, refl)

pub unstarted_files : (f : StartFault) (a b : ℕ) → BlamesFiles (unstarted_of f) a b
unstarted_files (start.NoMaster fs) a b = tt
unstarted_files (start.Stopped driver.NoMemory) a b = tt
unstarted_files (start.Stopped (driver.Swap cause)) a b = tt

pub unstarted_wire : (f : StartFault) (a : ℕ) → Counts (is_wire_end (unstarted_of f)) a a
unstarted_wire (start.NoMaster fs) a = refl
unstarted_wire (start.Stopped driver.NoMemory) a = refl
unstarted_wire (start.Stopped (driver.Swap cause)) a = refl

-- the faults of a start, where there is no master
abbrev pub IfNoMaster : StartFault → (List Fault → Type 0) → Type 0
IfNoMaster (start.NoMaster fs) has = has fs.items
IfNoMaster (start.Stopped e) has = Unit {0}

pub unstarted_master : (f : StartFault) (has : List Fault → Type 0) (unserved : Type 0) → IfNoMaster f has → unserved → IsNoMaster (unstarted_of f) has unserved
unstarted_master (start.NoMaster fs) has unserved h u = (h, u)
unstarted_master (start.Stopped driver.NoMemory) has unserved h u = tt
unstarted_master (start.Stopped (driver.Swap cause)) has unserved h u = tt

-- Where nothing failed

pub in_order : (s : Hosted) (told : Option Bytes) (last : Last) (f0 f1 z0 z1 i0 i1 n0 n1 r0 r1 : ℕ) (t0 t1 h0 h1 : Type 0) → OutputTells (is_output_end s) f0 f1 z0 z1 → BlamesFiles s i0 i1 → Counts (is_wire_end s) n0 n1 → SwapTells s told last r0 r1 t0 t1 h0 h1
    → NothingFailed f0 f1 z0 z1 i0 i1 n0 n1 r0 r1 t1 h1 → IsInOrder s
in_order Done told last f0 f1 z0 z1 i0 i1 n0 n1 r0 r1 t0 t1 h0 h1 o f w s none = tt
in_order TurnsSpent told last f0 f1 z0 z1 i0 i1 n0 n1 r0 r1 t0 t1 h0 h1 o f w s none = tt
in_order (NoMaster faults) told last f0 f1 z0 z1 i0 i1 n0 n1 r0 r1 t0 t1 h0 h1 o f w s none = tt
in_order NoMemory told last f0 f1 z0 z1 i0 i1 n0 n1 r0 r1 t0 t1 h0 h1 o f w s none = tt
in_order OutputFault told last f0 f1 z0 z1 i0 i1 n0 n1 r0 r1 t0 t1 h0 h1 o f w s none = elim o [ inl rose ↦ none.output rose | inr rose ↦ none.zeros rose ]
in_order (FilesFault path) told last f0 f1 z0 z1 i0 i1 n0 n1 r0 r1 t0 t1 h0 h1 o f w s none = none.files f
in_order WireFault told last f0 f1 z0 z1 i0 i1 n0 n1 r0 r1 t0 t1 h0 h1 o f w s none = none.wire w
in_order (SwapFault Read) told last f0 f1 z0 z1 i0 i1 n0 n1 r0 r1 t0 t1 h0 h1 o f w s none = none.reads s.faults
in_order (SwapFault (Changed owner found)) told last f0 f1 z0 z1 i0 i1 n0 n1 r0 r1 t0 t1 h0 h1 o f w s none = (s.honest none.honest).1 none.truthful

-- No master, as it was found on the store of the files

pub no_master_of : (f : StartFault) (store : Store) (seed moment first : ℕ) (files : List File) → moment ≡ first → HasFiles store files → HasNoMasterIf store seed moment f → IfNoMaster f (λ fs. (front : FrontEnd) → IsFrontEnd front → MakesNoMaster front files seed first fs)
no_master_of (start.NoMaster fs) store seed moment first files at has none = λ front real. subst (λ (n : ℕ). MakesNoMaster front files seed n fs.items) at (none front files real has)
no_master_of (start.Stopped e) store seed moment first files at has none = tt

-- The files could not be loaded

pub unloaded_so : (P : Hosted → Type 0) (s : Hosted) → IsUnloaded s → ((path : String Global) → P (FilesFault path)) → P NoMemory → P s
unloaded_so P (FilesFault path) u f m = f path
unloaded_so P NoMemory u f m = m
unloaded_so P Done u f m = absurd u
unloaded_so P TurnsSpent u f m = absurd u
unloaded_so P WireFault u f m = absurd u
unloaded_so P OutputFault u f m = absurd u
unloaded_so P (NoMaster faults) u f m = absurd u
unloaded_so P (SwapFault cause) u f m = absurd u

pub still_swap : (told : Option Bytes) (last : Last) (reads : ℕ) (truthful honest : Type 0) (path : String Global) → SwapTells (FilesFault path) told last reads reads truthful truthful honest honest
still_swap told last reads truthful honest path = record { cause = tt; faults = refl; truthful = λ y. y; honest = λ y. (y, λ z. tt) }

pub still_memory : (told : Option Bytes) (last : Last) (reads : ℕ) (truthful honest : Type 0) → SwapTells NoMemory told last reads reads truthful truthful honest honest
still_memory told last reads truthful honest = record { cause = tt; faults = refl; truthful = λ y. y; honest = λ y. (y, λ z. tt) }

-- the count of the files did not change before
pub files_from : (s : Hosted) (a b c : ℕ) → b ≡ a → BlamesFiles s b c → BlamesFiles s a c
files_from s a b c same t = subst (λ (n : ℕ). BlamesFiles s n c) same t

pub failed_rose : (e : FilesError) (a b : ℕ) → e ≡ errors.Failed → Counts (held.is_failed {A = Unit {0}} (Err e)) a b → Rose a b
failed_rose e a b is t = subst (λ (x : FilesError). Counts (held.is_failed {A = Unit {0}} (Err x)) a b) is t
