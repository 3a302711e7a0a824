-- Files in memory, as a caller sees them.
use Rattle.std.specs.Prelude.{ℕ, List, [], ◌∷◌, Bool, if◌then◌else◌, String, Vec, string_bytes}
use Rattle.std.specs.Global.{Global}
use Rattle.lp_io.specs.Memory.{Calls, after_call, after_failure}
use Rattle.lp_files.specs.Store.{bytes_at}
use Rattle.lp_words.specs.Paths.{is_path}
use Rattle.lp_folder.specs.Held.{Held}
use Rattle.lp_folder.specs.declared.memory.MemFiles.{MemFiles}

-- what they hold
abbrev pub held_of : MemFiles → Held
held_of f q = bytes_at f.files q

-- their calls, and which of them fail
abbrev pub calls_of : MemFiles → Calls
calls_of f = record { listed = f.fail.items; made = f.calls; failed = f.faults }

-- the calls after one more, by whether it failed
abbrev pub counted : Bool → Calls → Calls
counted fails c = if fails then after_failure c else after_call c

-- the files among entries whose paths are paths of a script
abbrev pub files_among : List (String Global × Vec ℕ Global) → List (List ℕ × List ℕ)
files_among [] = []
files_among (e ∷ es) = if is_path (string_bytes e.0) then (string_bytes e.0, e.1.items) ∷ files_among es else files_among es
