-- What was recorded of a run.
use Rattle.std.specs.Prelude.{◌≡◌, List, Option, ℕ, flat_map}
use Rattle.lp_io.specs.Told.{after_adding}
use Rattle.lp_events.specs.Script.{spellings}
use Rattle.lp_core.specs.Turning.{Turn, turns_of}
use Rattle.lp_wire.specs.Courses.{Deed, events_of, outputs_of}
use Rattle.lp_wire.specs.Record.{event_items, logged}
use Rattle.lp_recording.specs.declared.recording.Keeps.{Keeps}
use Rattle.lp_recording.specs.declared.recording.Keeps.TheVariants.{Record, Log}

-- what is written of turns: the items of their events, or the log records of their outputs
abbrev pub deeds_written : Keeps → List Deed → List ℕ
deeds_written Record ds = spellings (event_items (events_of ds))
deeds_written Log ds = flat_map logged (outputs_of ds)

-- THE DRIVER RAN SO, AND IT WAS WRITTEN, behind what was written before
pub record Recorded (ran : List Turn → Type 0) (keeps : Keeps) (before now : Option (List ℕ)) (ds : List Deed) : Type 0 where
  pub did : ran (turns_of ds)
  pub written : now ≡ after_adding before (deeds_written keeps ds)
