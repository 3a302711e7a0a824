-- A server from its files to its end.
use Rattle.std.specs.Prelude.{◌≡◌, ⊤, ℕ, ◌≤◌, ◌<◌, List, [], Bool, true, false, Option, Some, None, String, codes, string_bytes, ◌⊎◌}
use Rattle.std.specs.Global.{Global}
use Rattle.lp_files.specs.Store.{changed_in, file_at}
use Rattle.lp_files.specs.declared.store.Store.{Store}
use Rattle.lp_io.specs.Told.{after_adding}
use Rattle.lp_events.specs.Script.{spellings}
use Rattle.lp_events.specs.declared.out.Out.{Out}
use Rattle.lp_wire.specs.Record.{logged, opening_items}
use Rattle.lp_wire.specs.declared.happening.WireCall.{WireCall}
use Rattle.lp_folder.specs.Held.{ArePaths, Held, HoldsAll}
use Rattle.lp_folder.specs.declared.outside.Loaded.{Loaded}
use Rattle.lp_recording.specs.Recorded.{files_in}
use Rattle.lp_recording.specs.declared.recording.Keeps.{Keeps}
use Rattle.lp_recording.specs.declared.recording.Keeps.TheVariants as keeps
use Rattle.lp_core.specs.Turning.{Origin}
use Rattle.lp_driver.specs.VmFault.TheVariants as driver
use Rattle.lp_driver.specs.declared.driver.StartFault.{StartFault}
use Rattle.lp_driver.specs.declared.driver.StartFault.TheVariants as start
use Rattle.lp_core.specs.declared.driver.Stop.{Stop}
use Rattle.lp_core.specs.declared.driver.Stop.TheVariants as stops
use Rattle.lp_serve.specs.Causes.{TriedLast}
use Rattle.lp_serve.specs.declared.run.Served.{Served}
use Rattle.lp_serve.specs.declared.run.Served.TheVariants as served
use Rattle.lp_residence.specs.declared.answers.SwapCause.{SwapCause}
use Rattle.lp_state.specs.declared.fault.TurnFault.{TurnFault}
use Rattle.lp_state.specs.declared.fault.TurnFault.TheVariants as faults
use Rattle.lp_host.specs.Playing.{IsPlayed}
use Rattle.lp_host.specs.declared.run.Hosted.{Hosted}
use Rattle.lp_host.specs.declared.run.Hosted.TheVariants.{Done, NoMaster, OutputFault, SwapFault, FilesFault, WireFault, TurnsSpent, NoMemory}

-- what is written before the first happening: the head, the files and the start of a record, or the log of the start
abbrev pub opening_written : Keeps → ℕ → ℕ → List Loaded → List Out → List ℕ
opening_written keeps.Record seed moment files outs = spellings (opening_items seed moment (files_in files))
opening_written keeps.Log seed moment files outs = logged outs

-- A GAME WAS HOSTED as far as it came: of these files a master was made, with these outputs at the start; it was served, and came about by the start and a turn for each
-- event that is recorded, as the written meaning has them.
pub record IsHosted (seed : ℕ) (keeps : Keeps) (held : Option Held) (opening : ℕ) (before now : Option (List ℕ)) (end : List ℕ) (stops : Bool) (polls : ℕ → Type 0) (left : Store → Type 0) (told0 told1 : Option (List WireCall)) : Type 0 where
  pub files : List Loaded
  pub loaded : HoldsAll files held
  pub paths : ArePaths files
  pub outs : List Out
  pub played : IsPlayed opening (record { seed = seed; moment = opening; files = files_in files; outputs = outs }) keeps (after_adding before (opening_written keeps seed opening files outs)) now end stops polls left told0 told1

-- the cause of a turn's end, where there is one
abbrev pub stopped_of : Stop → Option SwapCause → Hosted
stopped_of stops.NoMemory cause = NoMemory
stopped_of stops.Swap (Some cause) = SwapFault cause
stopped_of stops.Swap None = NoMemory

-- the end of a turn that was not carried out, by its fault
abbrev pub ended_of : TurnFault → Hosted
ended_of faults.HasFailed = NoMemory
ended_of (faults.Swap cause) = SwapFault cause
ended_of faults.NoMemory = NoMemory

abbrev pub hosted_of : Served → Option SwapCause → Hosted
hosted_of served.Done cause = Done
hosted_of served.OutputFault cause = OutputFault
hosted_of (served.FilesFault path) cause = FilesFault path
hosted_of served.WireFault cause = WireFault
hosted_of served.TurnsSpent cause = TurnsSpent
hosted_of (served.Stopped why) cause = stopped_of why cause
hosted_of served.NoMemory cause = NoMemory

-- THE FILES in the end, by what was held and counted before and behind: the last tries to write changed ones came to this
abbrev pub LeavesFiles : ℕ → Option Held → ℕ → Option (String Global) → Store → Type 0
LeavesFiles faults0 now faults1 failed store = TriedLast failed (file_at store) faults0 (changed_in store) now faults1

-- HOW IT ENDED: by the operator's stop, when its polls were spent, or where one failed. Where files failed, they could not be loaded, and it was not served; or it was stopped,
-- and the last try of a changed one failed. Of other ends it is not said here.
abbrev pub AsHosted : Hosted → (List ℕ → Bool → (ℕ → Type 0) → (Store → Type 0) → Type 0) → (Option (String Global) → Store → Type 0) → Type 0 → List ℕ → ℕ → Type 0
AsHosted Done run left unserved ending turns = run ending true (λ polls. polls ≤ turns) (left None)
AsHosted TurnsSpent run left unserved ending turns = run ending false (λ polls. polls ≡ turns) (λ store. ⊤)
AsHosted WireFault run left unserved ending turns = run [] false (λ polls. polls < turns) (λ store. ⊤)
AsHosted OutputFault run left unserved ending turns = ⊤
AsHosted (FilesFault path) run left unserved ending turns = ((string_bytes path ≡ codes "/") × unserved) ⊎ run ending true (λ polls. polls ≤ turns) (left (Some path))
AsHosted (NoMaster faults) run left unserved ending turns = ⊤
AsHosted (SwapFault cause) run left unserved ending turns = ⊤
AsHosted NoMemory run left unserved ending turns = ⊤

-- the end where the start was not carried out
abbrev pub unstarted_of : StartFault → Hosted
unstarted_of (start.NoMaster faults) = NoMaster faults
unstarted_of (start.Stopped driver.NoMemory) = NoMemory
unstarted_of (start.Stopped (driver.Swap cause)) = SwapFault cause

-- the end where the files could not be loaded
abbrev pub IsUnloaded : Hosted → Type 0
IsUnloaded (FilesFault path) = string_bytes path ≡ codes "/"
IsUnloaded NoMemory = ⊤
IsUnloaded Done = ⊥
IsUnloaded TurnsSpent = ⊥
IsUnloaded WireFault = ⊥
IsUnloaded OutputFault = ⊥
IsUnloaded (NoMaster faults) = ⊥
IsUnloaded (SwapFault cause) = ⊥
