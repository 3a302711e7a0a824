-- How a game that is served came about.
use Rattle.std.specs.Prelude.{◌≡◌, ℕ, List, [], ◌∷◌, map, Bool, Option}
use Rattle.lp_events.specs.declared.event.Event.{Event}
use Rattle.lp_events.specs.declared.out.Out.{Out}
use Rattle.lp_files.specs.declared.store.Store.{Store}
use Rattle.lp_swapfile.specs.Device.{Bytes}
use Rattle.lp_language.specs.World.{File, World}
use Rattle.lp_meaning.specs.FrontEnd.{FrontEnd}
use Rattle.lp_meaning.specs.Closing.{Run}
use Rattle.lp_front_end.specs.FrontEnds.{IsFrontEnd}
use Rattle.lp_world.specs.declared.live.Live.{Live}
use Rattle.lp_driver.specs.Driving.{IsAtRest}
use Rattle.lp_core.specs.Turning.{Origin, Turn}
use Rattle.lp_recording.specs.declared.recording.Keeps.{Keeps}
use Rattle.lp_serve.specs.Served.{HasRun}
use Rattle.lp_wire.specs.declared.happening.WireCall.{WireCall}

-- a file, as a world has it
abbrev pub world_file : List ℕ × List ℕ → File
world_file f = record { path = f.0; bytes = f.1 }

abbrev pub world_files : List (List ℕ × List ℕ) → List File
world_files files = map world_file files

abbrev pub event_of : Turn → Event
event_of t = t.0

abbrev pub outputs_of : Turn → List Out
outputs_of t = t.1

-- By a front end the game has a run: the start, and a turn for each event; and the state stands for its last world.
pub record PlayedBy (front : FrontEnd) (origin : Origin) (told : Option Bytes) (live : Live) (turns : List Turn) : Type 0 where
  pub last : World
  pub run : Run front origin.seed origin.moment (world_files origin.files) (map event_of turns) (origin.outputs ∷ map outputs_of turns) last
  pub rest : IsAtRest told live last

-- THE GAME CAME ABOUT by this start and these turns, as the written meaning has them, by each front end that there is.
abbrev pub HasPlayed : Origin → Option Bytes → Live → List Turn → Type 0
HasPlayed origin told live turns = (front : FrontEnd) → IsFrontEnd front → PlayedBy front origin told live turns

-- A GAME WAS PLAYED as far as it came: it was served, and came about by its start and a turn for each event; and this holds of its store in the end.
pub record IsPlayed (opening : ℕ) (origin : Origin) (keeps : Keeps) (before now : Option (List ℕ)) (end : List ℕ) (stops : Bool) (polls : ℕ → Type 0) (left : Store → Type 0) (told0 told1 : Option (List WireCall)) : Type 0 where
  pub swapped : Option Bytes
  pub live : Live
  pub files : left live.store
  pub run : HasRun opening (HasPlayed origin swapped live) keeps before now end stops polls told0 told1
