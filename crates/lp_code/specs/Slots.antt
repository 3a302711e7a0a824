-- Slots by their names.
use Rattle.std.specs.Prelude.{◌≡◌, ℕ, suc, bytes_eq, cond, List, [], ◌∷◌, Option, Some, None, option_map}
use Rattle.std.specs.HashMap.{HashMap, get_by_text}
use Rattle.std.specs.declared.string.String.{String}
use Rattle.lp_code.specs.declared.tables.Slot.{Slot}

-- the place of the first slot of a name
abbrev pub first_place : List ℕ → List Slot → Option ℕ
first_place name [] = None
first_place name (s ∷ ss) = cond (bytes_eq name s.name) (Some 0) (option_map suc (first_place name ss))

-- the first answer, where there is one
abbrev pub earlier : Option ℕ → Option ℕ → Option ℕ
earlier None b = b
earlier (Some a) b = Some a

-- a map has the place of the first slot of each name
pub record IsIndex {Y S : Type 0} (rows : List Slot) (places : HashMap (String Y) ℕ S) : Type 0 where
  pub each : (name : List ℕ) → get_by_text places name ≡ first_place name rows
