-- What the items of a script say of a world.
use Rattle.std.specs.Prelude.{ℕ, List, map}
use Rattle.lp_events.specs.declared.item.Item.{Item}
use Rattle.lp_events.specs.Script.{files_of}
use Rattle.lp_language.specs.World.{File}

-- a file of a script, as a world has it
abbrev pub world_file : List ℕ × List ℕ → File
world_file f = record { path = f.0; bytes = f.1 }

-- the files, in order
abbrev pub world_files : List Item → List File
world_files xs = map world_file (files_of xs)
