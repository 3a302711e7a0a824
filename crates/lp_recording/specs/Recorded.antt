-- What is written of a run.
use Rattle.std.specs.Prelude.{◌≡◌, ℕ, ◌≤◌, List, [], map, length, take, codes, Option}
use Rattle.lp_io.specs.Told.{after_adding}
use Rattle.lp_events.specs.declared.event.Event.{Event}
use Rattle.lp_events.specs.declared.item.Item.TheVariants as items
use Rattle.lp_events.specs.declared.out.Out.{Out}
use Rattle.lp_events.specs.Script.{spelling}
use Rattle.lp_folder.specs.declared.outside.Loaded.{Loaded}
use Rattle.lp_wire.specs.Record.{logged}
use Rattle.lp_recording.specs.declared.recording.Keeps.{Keeps}
use Rattle.lp_recording.specs.declared.recording.Keeps.TheVariants as keeps

-- files as paths and bytes
abbrev pub file_in : Loaded → List ℕ × List ℕ
file_in f = (f.path, f.bytes)

abbrev pub files_in : List Loaded → List (List ℕ × List ℕ)
files_in files = map file_in files

-- what is kept of an event and its outputs
abbrev pub kept_of : Keeps → Event → List Out → List ℕ
kept_of keeps.Record event outs = spelling (items.Event event)
kept_of keeps.Log event outs = logged outs

-- what is written at the end
abbrev pub ending : Keeps → List ℕ
ending keeps.Record = codes "end\n"
ending keeps.Log = []

-- a front of the bytes was added, or the whole
abbrev pub IsFrontOf : List ℕ → Option (List ℕ) → Option (List ℕ) → Type 0
IsFrontOf bytes before now = (n : ℕ) × (n ≤ length bytes) × (now ≡ after_adding before (take n bytes))
