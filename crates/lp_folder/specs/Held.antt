-- What files outside hold, where they tell it.
use Rattle.std.specs.Prelude.{◌≡◌, ℕ, List, [], ◌∷◌, map, Bool, true, false, Option, Some, None, Result, Ok, Err, if◌then◌else◌, ⊤}
use Rattle.std.specs.Str.{bytes_eq}
use Rattle.lp_files.specs.Paths.{IsRising}
use Rattle.lp_words.specs.Paths.{is_path}
use Rattle.lp_folder.specs.declared.outside.FilesError.{FilesError}
use Rattle.lp_folder.specs.declared.outside.FilesError.TheVariants as errors
use Rattle.lp_folder.specs.declared.outside.Loaded.{Loaded}

-- files by their paths
abbrev pub Held : Type 0
Held = List ℕ → Option (List ℕ)

-- the answer is that the files failed
abbrev pub is_failed : {A : Type 0} → Result A FilesError → Bool
is_failed (Ok x) = false
is_failed (Err errors.Failed) = true
is_failed (Err errors.NoMemory) = false

-- the bytes of a file of a list
abbrev pub loaded_at : List Loaded → List ℕ → Option (List ℕ)
loaded_at [] path = None
loaded_at (f ∷ fs) path = if bytes_eq f.path path then Some f.bytes else loaded_at fs path

-- the first of two, if there is one
abbrev pub first_of : Option (List ℕ) → Option (List ℕ) → Option (List ℕ)
first_of (Some a) o = Some a
first_of None o = o

-- at each path of a script the list has what is held
abbrev pub HoldsAll : List Loaded → Option Held → Type 0
HoldsAll files told = (h : Held) → told ≡ Some h → (path : List ℕ) → is_path path ≡ true → loaded_at files path ≡ h path

-- each is a path of a script
abbrev pub AllPaths : List Loaded → Type 0
AllPaths [] = ⊤
AllPaths (f ∷ fs) = (is_path f.path ≡ true) × AllPaths fs

-- the paths of files
abbrev pub paths_of : List Loaded → List (List ℕ)
paths_of files = map (λ f. f.path) files

-- paths of a script, each below those behind it
pub record ArePaths (files : List Loaded) : Type 0 where
  pub each : AllPaths files
  pub rising : IsRising (paths_of files)

-- a path holds this now, and every other what it held
abbrev pub HoldsWith : List ℕ → Option (List ℕ) → Option Held → Option Held → Type 0
HoldsWith path bytes old now = (h : Held) → now ≡ Some h → (h0 : Held) × (old ≡ Some h0) × ((q : List ℕ) → h q ≡ (if bytes_eq path q then bytes else h0 q))

-- every path but one holds what it held
abbrev pub HoldsBut : List ℕ → Option Held → Option Held → Type 0
HoldsBut path old now = (h : Held) → now ≡ Some h → (h0 : Held) × (old ≡ Some h0) × ((q : List ℕ) → bytes_eq path q ≡ false → h q ≡ h0 q)
