-- A hosted game, from its files to its end.
use Rattle.std.proofs.Common.{◌≡◌, ◌∙◌, ℕ, List, [], ◌∷◌, Bool, true, false, Option, Some, None, String, map, refl, sym, ap, ◌⊎◌, inl, inr}
use Rattle.std.specs.Prelude.{if◌then◌else◌, option_map}
use Rattle.std.specs.Global.{Global}
use Rattle.std.specs.Str.{bytes_eq}
use Rattle.lp_driver.specs.VmFault.TheVariants as driver
use Rattle.lp_driver.specs.declared.driver.StartFault.{StartFault}
use Rattle.lp_driver.specs.declared.driver.StartFault.TheVariants as start
use Rattle.lp_files.specs.Store.{file_at}
use Rattle.lp_files.specs.declared.store.Store.{Store}
use Rattle.lp_first.specs.First.{HasFiles}
use Rattle.lp_folder.specs.Held.{loaded_at}
use Rattle.lp_folder.specs.declared.outside.Loaded.{Loaded}
use Rattle.lp_language.specs.World.{File}
use Rattle.lp_meaning.specs.WorldSteps as steps
use Rattle.lp_recording.specs.Recorded.{file_in, files_in}
use Rattle.lp_residence.specs.declared.answers.SwapCause.{SwapCause}
use Rattle.lp_core.specs.declared.driver.Stop.{Stop}
use Rattle.lp_core.specs.declared.driver.Stop.TheVariants as stops
use Rattle.lp_serve.specs.Causes.{FilesTell}
use Rattle.lp_serve.specs.Served.{AsEnded}
use Rattle.lp_serve.specs.declared.run.Served.{Served}
use Rattle.lp_serve.specs.declared.run.Served.TheVariants as served
use Rattle.lp_host.specs.Hosting.{AsHosted, IsUnloaded, hosted_of, stopped_of, unstarted_of}
use Rattle.lp_host.specs.Playing.{world_file, world_files}
use Rattle.lp_host.specs.declared.run.Hosted.{Hosted}
use Rattle.lp_host.specs.declared.run.Hosted.TheVariants.{Done, NoMaster, OutputFault, SwapFault, FilesFault, WireFault, TurnsSpent, NoMemory}

stopped_as : (why : Stop) (cause : Option SwapCause) (Q : List ℕ → Bool → (ℕ → Type 0) → (Store → Type 0) → Type 0) (left : Option (String Global) → Store → Type 0) (unserved : Type 0) (end : List ℕ) (turns : ℕ)
    → AsHosted (stopped_of why cause) Q left unserved end turns
stopped_as stops.NoMemory cause Q left unserved end turns = tt
stopped_as stops.Swap (Some cause) Q left unserved end turns = tt
stopped_as stops.Swap None Q left unserved end turns = tt

-- the loop ended as the whole does
pub ended_as : (s : Served) (cause : Option SwapCause) (P : List ℕ → Bool → (ℕ → Type 0) → Type 0) (Q : List ℕ → Bool → (ℕ → Type 0) → (Store → Type 0) → Type 0) (left : Option (String Global) → Store → Type 0) (store : Store)
    (rose unserved : Type 0) (end : List ℕ) (turns : ℕ) → ((e : List ℕ) (b : Bool) (p : ℕ → Type 0) (l : Store → Type 0) → l store → P e b p → Q e b p l) → FilesTell s (λ failed. left failed store) rose
    → AsEnded s P end turns → AsHosted (hosted_of s cause) Q left unserved end turns
ended_as served.Done cause P Q left store rose unserved end turns f t h = f _ _ _ (left None) t h
ended_as served.OutputFault cause P Q left store rose unserved end turns f t h = tt
ended_as (served.FilesFault path) cause P Q left store rose unserved end turns f t h = inr (f _ _ _ (left (Some path)) t.0 h)
ended_as served.WireFault cause P Q left store rose unserved end turns f t h = f _ _ _ (λ s. Unit {0}) tt h
ended_as served.TurnsSpent cause P Q left store rose unserved end turns f t h = f _ _ _ (λ s. Unit {0}) tt h
ended_as (served.Stopped why) cause P Q left store rose unserved end turns f t h = stopped_as why cause Q left unserved end turns
ended_as served.NoMemory cause P Q left store rose unserved end turns f t h = tt

-- where the start was not carried out nothing is known of a run
pub unstarted_as : (f : StartFault) (Q : List ℕ → Bool → (ℕ → Type 0) → (Store → Type 0) → Type 0) (left : Option (String Global) → Store → Type 0) (unserved : Type 0) (end : List ℕ) (turns : ℕ) → AsHosted (unstarted_of f) Q left unserved end turns
unstarted_as (start.NoMaster faults) Q left unserved end turns = tt
unstarted_as (start.Stopped driver.NoMemory) Q left unserved end turns = tt
unstarted_as (start.Stopped (driver.Swap cause)) Q left unserved end turns = tt

-- where the files could not be loaded it was not served
pub unloaded_as : (s : Hosted) (Q : List ℕ → Bool → (ℕ → Type 0) → (Store → Type 0) → Type 0) (left : Option (String Global) → Store → Type 0) (unserved : Type 0) (end : List ℕ) (turns : ℕ) → IsUnloaded s → unserved → AsHosted s Q left unserved end turns
unloaded_as (FilesFault path) Q left unserved end turns h u = inl (h, u)
unloaded_as NoMemory Q left unserved end turns h u = tt
unloaded_as Done Q left unserved end turns h u = absurd h
unloaded_as (NoMaster faults) Q left unserved end turns h u = absurd h
unloaded_as OutputFault Q left unserved end turns h u = absurd h
unloaded_as (SwapFault cause) Q left unserved end turns h u = absurd h
unloaded_as WireFault Q left unserved end turns h u = absurd h
unloaded_as TurnsSpent Q left unserved end turns h u = absurd h

-- what is known of a run is told otherwise
pub hosted_as : (s : Hosted) (P Q : List ℕ → Bool → (ℕ → Type 0) → (Store → Type 0) → Type 0) (left : Option (String Global) → Store → Type 0) (unserved unserved1 : Type 0) (end : List ℕ) (turns : ℕ)
    → ((e : List ℕ) (b : Bool) (p : ℕ → Type 0) (l : Store → Type 0) → P e b p l → Q e b p l) → (unserved → unserved1) → AsHosted s P left unserved end turns → AsHosted s Q left unserved1 end turns
hosted_as Done P Q left unserved unserved1 end turns f u h = f _ _ _ _ h
hosted_as (NoMaster faults) P Q left unserved unserved1 end turns f u h = tt
hosted_as OutputFault P Q left unserved unserved1 end turns f u h = tt
hosted_as (SwapFault cause) P Q left unserved unserved1 end turns f u h = tt
hosted_as (FilesFault path) P Q left unserved unserved1 end turns f u (inl e) = inl (e.0, u e.1)
hosted_as (FilesFault path) P Q left unserved unserved1 end turns f u (inr h) = inr (f _ _ _ _ h)
hosted_as WireFault P Q left unserved unserved1 end turns f u h = f _ _ _ _ h
hosted_as TurnsSpent P Q left unserved unserved1 end turns f u h = f _ _ _ _ h
hosted_as NoMemory P Q left unserved unserved1 end turns f u h = tt

-- the files of a store are those that were loaded
file_found : (b : Bool) (g : File) (o : Option File) (bytes : List ℕ) (rest : Option (List ℕ)) → g.bytes ≡ bytes → option_map (λ (f : File). f.bytes) o ≡ rest
    → option_map (λ (f : File). f.bytes) (if b then Some g else o) ≡ (if b then Some bytes else rest)
file_found true g o bytes rest e h = ap (λ x. Some x) e
file_found false g o bytes rest e h = h

file_loaded : (files : List Loaded) (q : List ℕ) → steps.file_at (world_files (files_in files)) q ≡ loaded_at files q
file_loaded [] q = refl
file_loaded (f ∷ fs) q = file_found (bytes_eq f.path q) (world_file (file_in f)) _ f.bytes (loaded_at fs q) refl (file_loaded fs q)

pub has_files : (files : List Loaded) (store : Store) → ((q : List ℕ) → file_at store q ≡ loaded_at files q) → HasFiles store (world_files (files_in files))
has_files files store h = λ q. h q ∙ sym (file_loaded files q)
