-- Names found by a map.
use Rattle.std.specs.Prelude.{◌≡◌, ℕ, List, bytes_eq, is_some}
use Rattle.std.specs.HashMap.{HashMap, get_by_text}
use Rattle.std.specs.List.{list_any}
use Rattle.std.specs.declared.string.String.{String}

-- a map has a place for each name of a list, and for no other
pub record HasPlaces {Y S : Type 0} (names : List (List ℕ)) (places : HashMap (String Y) ℕ S) : Type 0 where
  pub each : (name : List ℕ) → is_some (get_by_text places name) ≡ list_any (bytes_eq name) names
