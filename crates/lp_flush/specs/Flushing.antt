-- Tries to write changed files outside.
use Rattle.std.specs.Prelude.{◌≡◌, ℕ, ◌+◌, ◌<◌, ◌≤◌, List, [], ◌∷◌, ◌++◌, length, take, drop, get_or, Option, Some, None, String, string_bytes}
use Rattle.std.specs.Global.{Global}
use Rattle.lp_io.specs.Counts.{Rose}
use Rattle.lp_files.specs.Paths.{without_path}
use Rattle.lp_folder.specs.Held.{Held, HoldsWith, HoldsBut}
use Rattle.lp_flush.specs.declared.flush.Written.{Written}
use Rattle.lp_flush.specs.declared.flush.Written.TheVariants.{Kept, Failed, NoMemory}

-- ONE TRY: the file is held as it is in the store; or nothing is known of it, and the count of faults rose, or memory was wanting.
abbrev pub TriesOne : Written → List ℕ → Option (List ℕ) → Option Held → Option Held → ℕ → ℕ → Type 0
TriesOne Kept path bytes old now faults0 faults1 = HoldsWith path bytes old now × (faults1 ≡ faults0)
TriesOne Failed path bytes old now faults0 faults1 = HoldsBut path old now × Rose faults0 faults1 × (faults0 ≤ faults1)
TriesOne NoMemory path bytes old now faults0 faults1 = HoldsBut path old now × (faults1 ≡ faults0)

-- the list of changes behind a try
abbrev pub changed_behind : Written → List ℕ → List (List ℕ) → List (List ℕ)
changed_behind Kept path changed = without_path path changed
changed_behind Failed path changed = changed
changed_behind NoMemory path changed = changed

-- TRIES, one after another: the paths that were tried, those of them whose try failed, and what is held and counted then, from what was held and counted first. The files are as
-- the store has them.
pub data Flushes (file : List ℕ → Option (List ℕ)) (first : Option Held) (faults : ℕ) : List (List ℕ) → List (List ℕ) → Option Held → ℕ → Type 0 where
  none_tried : Flushes file first faults [] [] first faults
  was_kept : (tried left : List (List ℕ)) (told told1 : Option Held) (count count1 : ℕ) (path : List ℕ) → Flushes file first faults tried left told count → TriesOne Kept path (file path) told told1 count count1
      → Flushes file first faults (tried ++ path ∷ []) left told1 count1
  has_failed : (tried left : List (List ℕ)) (told told1 : Option Held) (count count1 : ℕ) (path : List ℕ) → Flushes file first faults tried left told count → TriesOne Failed path (file path) told told1 count count1
      → Flushes file first faults (tried ++ path ∷ []) (left ++ path ∷ []) told1 count1

-- MEMORY WAS WANTING at one of the changed paths: those before it were tried, nothing is known of its file, and it and those behind it stay on the list.
pub record IsCutShort (file : List ℕ → Option (List ℕ)) (first : Option Held) (faults : ℕ) (changed0 changed1 : List (List ℕ)) (now : Option Held) (count : ℕ) : Type 0 where
  pub tries : ℕ
  pub within : tries < length changed0
  pub left : List (List ℕ)
  pub told : Option Held
  pub flushes : Flushes file first faults (take tries changed0) left told count
  pub stay : changed1 ≡ left ++ drop tries changed0
  pub but : HoldsBut (get_or changed0 tries []) told now

-- THE FIRST CHANGED PATH, AGAIN AND AGAIN: all were kept; or the try at one failed, those before it were kept, and it and those behind it stay on the list.
abbrev pub StopsAt : Option (String Global) → (List ℕ → Option (List ℕ)) → Option Held → ℕ → List (List ℕ) → List (List ℕ) → Option Held → ℕ → Type 0
StopsAt None file first faults changed0 changed1 now count = Flushes file first faults changed0 [] now count × (changed1 ≡ [])
StopsAt (Some path) file first faults changed0 changed1 now count =
    (tries : ℕ) × (tries < length changed0) × (string_bytes path ≡ get_or changed0 tries []) × Flushes file first faults (take (tries + 1) changed0) (string_bytes path ∷ []) now count × (changed1 ≡ drop tries changed0)
