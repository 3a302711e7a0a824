-- What was written of a hosted game at an end at which it was cut short.
use Rattle.std.specs.Prelude.{◌≡◌, ⊤, ℕ, List, [], ◌++◌, Option, ◌⊎◌}
use Rattle.lp_io.specs.Told.{after_adding}
use Rattle.lp_events.specs.declared.out.Out.{Out}
use Rattle.lp_swapfile.specs.Device.{Bytes}
use Rattle.lp_world.specs.declared.live.Live.{Live}
use Rattle.lp_core.specs.Turning.{Origin, Turn}
use Rattle.lp_folder.specs.Held.{ArePaths, Held, HoldsAll}
use Rattle.lp_folder.specs.declared.outside.Loaded.{Loaded}
use Rattle.lp_recording.specs.Recorded.{IsFrontOf, ending, files_in}
use Rattle.lp_recording.specs.declared.recording.Keeps.{Keeps}
use Rattle.lp_serve.specs.CutRuns.{HasKept}
use Rattle.lp_host.specs.Hosting.{opening_written}
use Rattle.lp_host.specs.Playing.{HasPlayed}
use Rattle.lp_host.specs.declared.run.Hosted.{Hosted}
use Rattle.lp_host.specs.declared.run.Hosted.TheVariants.{Done, NoMaster, OutputFault, SwapFault, FilesFault, WireFault, TurnsSpent, NoMemory}

-- a game came about by this start and these turns, as the written meaning has them, with some state behind them
abbrev pub WasPlayed : Origin → List Turn → Type 0
WasPlayed origin turns = (told : Option Bytes) × (live : Live) × HasPlayed origin told live turns

-- how a game of these files began
abbrev pub origin_of : ℕ → ℕ → List Loaded → List Out → Origin
origin_of seed opening files outs = record { seed = seed; moment = opening; files = files_in files; outputs = outs }

-- a game of these files began, and had some turns; and this holds of what is kept of all that, the beginning first
abbrev pub HasGone : ℕ → Keeps → ℕ → List Loaded → (List ℕ → Type 0) → Type 0
HasGone seed keeps opening files wrote = (outs : List Out) × HasKept (WasPlayed (origin_of seed opening files outs)) keeps (λ bytes. wrote (opening_written keeps seed opening files outs ++ bytes))

-- A GAME OF THE FILES THAT ARE HELD went on up to here.
pub record WasHosted (seed : ℕ) (keeps : Keeps) (held : Option Held) (opening : ℕ) (wrote : List ℕ → Type 0) : Type 0 where
  pub files : List Loaded
  pub loaded : HoldsAll files held
  pub paths : ArePaths files
  pub gone : HasGone seed keeps opening files wrote

-- WHAT WAS WRITTEN WHERE A GAME WAS CUT SHORT: where the output failed a front of what is kept of it, and of the end that may follow; at a fault of the swap file
-- and for want of memory what is kept of it, or nothing. Of other ends it is said elsewhere.
abbrev pub CutsGame : Hosted → ((List ℕ → Type 0) → Type 0) → Keeps → Option (List ℕ) → Option (List ℕ) → Type 0
CutsGame OutputFault gone keeps before now = gone (λ bytes. IsFrontOf (bytes ++ ending keeps) before now)
CutsGame (SwapFault cause) gone keeps before now = (now ≡ before) ⊎ gone (λ bytes. now ≡ after_adding before bytes)
CutsGame NoMemory gone keeps before now = (now ≡ before) ⊎ gone (λ bytes. now ≡ after_adding before bytes)
CutsGame Done gone keeps before now = ⊤
CutsGame (NoMaster faults) gone keeps before now = ⊤
CutsGame (FilesFault path) gone keeps before now = ⊤
CutsGame WireFault gone keeps before now = ⊤
CutsGame TurnsSpent gone keeps before now = ⊤
