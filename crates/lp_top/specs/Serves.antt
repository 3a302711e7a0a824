-- What serving players comes to.
use Rattle.std.specs.Prelude.{◌≡◌, ℕ, ◌⊎◌, List, Option, Some, None, String}
use Rattle.std.specs.declared.alloc.Global.{Global}
use Rattle.lp_io.specs.Counts.{Rose}
use Rattle.lp_files.specs.declared.store.Store.{Store}
use Rattle.lp_folder.specs.Held.{Held}
use Rattle.lp_recording.specs.Recorded.{ending}
use Rattle.lp_recording.specs.declared.recording.Keeps.{Keeps}
use Rattle.lp_recording.specs.declared.recording.Keeps.TheVariants as keeps
use Rattle.lp_wire.specs.declared.happening.WireCall.{WireCall}
use Rattle.lp_host.specs.Causes.{HasNoMaster, IsNoMaster}
use Rattle.lp_host.specs.Hosting.{AsHosted, IsHosted}
use Rattle.lp_host.specs.declared.run.Hosted.{Hosted}
use Rattle.lp_host.specs.declared.run.Hosted.TheVariants as hosted
use Rattle.lp_serve_words.specs.declared.words.Serving.{Serving}
use Rattle.lp_top.specs.declared.status.Status.{Status}
use Rattle.lp_top.specs.declared.status.Status.TheVariants.{Done, BadWords, BadScript, NoMaster, TooLarge, InputFault, OutputFault, SwapFault, FilesFault, WireFault, TurnsSpent, NoMemory}

-- what is written of a run: its record, where a file is named for it, and else its log
abbrev pub keeps_with : Option (List ℕ) → Keeps
keeps_with (Some file) = keeps.Record
keeps_with None = keeps.Log

-- THE STATUS of a game that was hosted, by how it ended
abbrev pub status_of_end : Hosted → Status
status_of_end hosted.Done = Done
status_of_end (hosted.NoMaster faults) = NoMaster faults.items
status_of_end hosted.OutputFault = OutputFault
status_of_end (hosted.SwapFault cause) = SwapFault cause
status_of_end (hosted.FilesFault path) = FilesFault path
status_of_end hosted.WireFault = WireFault
status_of_end hosted.TurnsSpent = TurnsSpent
status_of_end hosted.NoMemory = NoMemory

-- the ends that serving may have once the words are right
abbrev pub IsServeEnd : Status → Type 0
IsServeEnd BadWords = ⊥
IsServeEnd (BadScript at) = ⊥
IsServeEnd TooLarge = ⊥
IsServeEnd InputFault = ⊥
IsServeEnd s = Unit {0}

-- WHAT SERVING ENDED WITH: the game was hosted as the words say, over files that held this and a wire that began at this moment, with what was written and what the
-- wire told before and behind; `left` says what the last tries of changed files came to, and `unserved` that nothing was polled, sent or written.
pub record Serves (serving : Serving) (held : Option Held) (opening : ℕ) (before now : Option (List ℕ)) (told0 told1 : Option (List WireCall)) (left : Option (String Global) → Store → Type 0) (unserved : Type 0) (status : Status) : Type 0 where
  pub end : Hosted
  pub is : status ≡ status_of_end end
  pub hosted : AsHosted end (λ bytes stops polls files. IsHosted serving.seed (keeps_with serving.record_file) held opening before now bytes stops polls files told0 told1) left unserved (ending (keeps_with serving.record_file)) serving.turns
  pub no_master : IsNoMaster end (HasNoMaster serving.seed opening held) unserved

-- the game ended by the operator's stop, by spent polls, or for want of a master or of memory
abbrev pub IsServedInOrder : Status → Type 0
IsServedInOrder Done = Unit {0}
IsServedInOrder TurnsSpent = Unit {0}
IsServedInOrder (NoMaster faults) = Unit {0}
IsServedInOrder NoMemory = Unit {0}
IsServedInOrder s = ⊥

-- what the sink held back was passed on, or a flush failed
abbrev pub HandsOn : Status → ℕ → ℕ → Type 0
HandsOn status before now = ((status ≡ Done) × (now ≡ before)) ⊎ ((status ≡ OutputFault) × Rose before now)
