-- What tries to write changed files come to.
use Rattle.std.specs.Prelude.{◌≡◌, ℕ, ◌<◌, List, length, true, false, Option, Some}
use Rattle.lp_io.specs.Counts.{Rose}
use Rattle.lp_files.specs.Paths.{lists}
use Rattle.lp_folder.specs.Held.{Held}
use Rattle.lp_flush.specs.Flushing.{Flushes}

-- what is held behind tries, at each path
pub record KeptAt (file : List ℕ → Option (List ℕ)) (tried left : List (List ℕ)) (h0 h1 : Held) (path : List ℕ) : Type 0 where
  pub kept : lists path tried ≡ true → lists path left ≡ false → h1 path ≡ file path
  pub untried : lists path tried ≡ false → h1 path ≡ h0 path

pub record ChangedFilesAreKept : Type 0 where
  pub held : (file : List ℕ → Option (List ℕ)) (first : Option Held) (faults : ℕ) (tried left : List (List ℕ)) (now : Option Held) (count : ℕ) → Flushes file first faults tried left now count
      → (h1 : Held) → now ≡ Some h1 → (h0 : Held) × (first ≡ Some h0) × ((path : List ℕ) → KeptAt file tried left h0 h1 path)
  pub tried_once : (file : List ℕ → Option (List ℕ)) (first : Option Held) (faults : ℕ) (tried left : List (List ℕ)) (now : Option Held) (count : ℕ) → Flushes file first faults tried left now count
      → (path : List ℕ) → lists path left ≡ true → lists path tried ≡ true
  pub counted : (file : List ℕ → Option (List ℕ)) (first : Option Held) (faults : ℕ) (tried left : List (List ℕ)) (now : Option Held) (count : ℕ) → Flushes file first faults tried left now count
      → 0 < length left → Rose faults count
