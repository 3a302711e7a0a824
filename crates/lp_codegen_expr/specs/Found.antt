-- Names that a map knows by their places, and texts by their numbers.
use Rattle.std.specs.Prelude.{◌≡◌, ℕ, ◌≤◌, ◌<◌, List, Option, Some, length, nat_eq, slice_get, Vec}
use Rattle.std.specs.Cmp.Lexicographic.{pointwise}
use Rattle.std.specs.HashMap.{HashMap, get_by}
use Rattle.lp_language.specs.Scope.{slot_of}

-- the place that a map has for a name
abbrev pub place_in : {Y S : Type 0} → HashMap (Vec ℕ Y) ℕ S → List ℕ → Option ℕ
place_in places w = get_by (λ k. pointwise nat_eq w k.items) places

-- a map has the last place of each name
pub record HasLast {Y S : Type 0} (names : List (List ℕ)) (places : HashMap (Vec ℕ Y) ℕ S) : Type 0 where
  pub each : (w : List ℕ) → place_in places w ≡ slot_of names w

-- a text has this number in a list of texts that came from another, of which nothing is lost
pub record IsNumbered (k : ℕ) (t : List ℕ) (old new : List (List ℕ)) : Type 0 where
  pub longer : length old ≤ length new
  pub kept : (j : ℕ) → j < length old → slice_get new j ≡ slice_get old j
  pub within : k < length new
  pub there : slice_get new k ≡ Some t
