-- What the command `check` tells of the files of a script.
use Rattle.std.specs.Prelude.{◌≡◌, ℕ, List, [], ◌++◌, Bool, not, ◌&&◌, Option, Some, None, is_some, length, map, filter, flat_map, fold, bytes_eq, nat_eq, codes, if◌then◌else◌}
use Rattle.std.specs.Fmt.{decimal}
use Rattle.std.specs.List.{ends_with}
use Rattle.lp_files.specs.declared.store.Store.{Store}
use Rattle.lp_files.specs.Store.{file_at}
use Rattle.lp_files.specs.Paths.{IsRising, lists}
use Rattle.lp_tree.specs.declared.fault.Fault.{Fault}
use Rattle.lp_tree.specs.FaultText.{text_of}
use Rattle.lp_code.specs.declared.tables.Slot.{Slot}
use Rattle.lp_code.specs.declared.tables.Tables.{Tables}
use Rattle.lp_types_expr.specs.Signatures.{has_bit, has_function}
use Rattle.lp_loads.specs.Loads.{Load, Loaded, load_of, Loads, LoadsAll}

-- The files

-- the bytes of the file with a path, if there is one: of two with one path the later
abbrev pub bytes_at : List (List ℕ × List ℕ) → List ℕ → Option (List ℕ)
bytes_at files path = fold (λ found f. if bytes_eq f.0 path then Some f.1 else found) None files

-- a store has exactly these files
abbrev pub IsStoreOf : List (List ℕ × List ℕ) → Store → Type 0
IsStoreOf files store = (path : List ℕ) → file_at store path ≡ bytes_at files path

-- a file that is compiled: its path ends in `.c`
abbrev pub is_source : List ℕ → Bool
is_source path = ends_with nat_eq path (codes ".c")

-- the paths of the files that are compiled, in their order, which in a script is that of the paths
abbrev pub sources_of : List (List ℕ × List ℕ) → List (List ℕ)
sources_of files = filter is_source (map (λ f. f.0) files)

-- The names of the simul efuns

-- The file of the simul efuns: that with the path that was given, where it is among those that are compiled.
abbrev pub simul_file : List (List ℕ) → Option (List ℕ) → Option (List ℕ)
simul_file sources None = None
simul_file sources (Some path) = if lists path sources then Some path else None

-- A row of a function that every other object may call: it is no prototype, and neither private nor protected nor static.
abbrev pub is_callable : Slot → Bool
is_callable s = has_function s && not (has_bit 1 s.mods) && not (has_bit 2 s.mods) && not (has_bit 8 s.mods)

-- the names of such functions, in the order of the rows
abbrev pub callable_names : List Slot → List (List ℕ)
callable_names slots = map (λ s. s.name) (filter is_callable slots)

abbrev pub version_names : Option Tables → List (List ℕ)
version_names None = []
version_names (Some t) = callable_names t.slots

abbrev pub load_names : Option Load → List (List ℕ)
load_names None = []
load_names (Some l) = version_names l.version

-- The file of the simul efuns is loaded before the others, and with its parents while no names are known. The names are
-- those of its version; where it has none, or where there is no such file, there are no names.
abbrev pub LoadsSimul : Store → Option (List ℕ) → Loaded → List (List ℕ) → Type 0
LoadsSimul store None ls names = (ls ≡ []) × (names ≡ [])
LoadsSimul store (Some file) ls names = Loads store [] [] file [] ls × (names ≡ load_names (load_of ls file))

-- The faults

-- the files whose loads ended, in rising order of their paths, each once
pub record AreEnded (ls : Loaded) (paths : List (List ℕ)) : Type 0 where
  pub rising : IsRising paths
  pub each : (path : List ℕ) → lists path paths ≡ is_some (load_of ls path)

abbrev pub load_faults : Option Load → List Fault
load_faults None = []
load_faults (Some l) = l.faults

-- the faults of files, one file after another
abbrev pub faults_in : Loaded → List (List ℕ) → List Fault
faults_in ls paths = flat_map (λ path. load_faults (load_of ls path)) paths

-- The lines

-- the line of a fault
abbrev pub fault_line : Fault → List ℕ
fault_line f = f.file ++ codes " line " ++ decimal f.line ++ codes ": " ++ text_of f.kind ++ codes "\n"

-- the line of counts
abbrev pub counts_line : ℕ → ℕ → List ℕ
counts_line files faults = decimal files ++ codes " files, " ++ decimal faults ++ codes " faults\n"

-- a line for each fault, and the line of counts
abbrev pub report : ℕ → List Fault → List ℕ
report count faults = flat_map fault_line faults ++ counts_line count (length faults)

-- The report of the files of a script, where this path was given for the simul efuns: what loading each file that is
-- compiled finds, its parents first and running nothing, each file's faults once and by its path; and how many files are
-- compiled and how many faults there are.
pub record IsReport (simul : Option (List ℕ)) (files : List (List ℕ × List ℕ)) (bytes : List ℕ) : Type 0 where
  pub store : Store
  pub holds : IsStoreOf files store
  pub names : List (List ℕ)
  pub before : Loaded
  pub simuls : LoadsSimul store (simul_file (sources_of files) simul) before names
  pub after : Loaded
  pub loads : LoadsAll store names (sources_of files) before after
  pub ended : List (List ℕ)
  pub are_ended : AreEnded after ended
  pub told : bytes ≡ report (length (sources_of files)) (faults_in after ended)
