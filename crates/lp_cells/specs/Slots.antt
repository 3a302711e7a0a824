-- Slots: pairs in order of insertion, with a gap where one was dropped.
use Rattle.std.specs.Prelude.{◌≡◌, ◌<◌, Bool, ℕ, List, Option, None, Some, IsSome, if◌then◌else◌, is_some, length, slice_get, take}
use Rattle.std.specs.List.{flat_map}
use Rattle.std.specs.Map.{lookup}
use Rattle.std.specs.Option.{option_to_list}
use Rattle.lp_values.specs.Read.{live_part, value_eq}
use Rattle.lp_values.specs.declared.id.ObjId.{ObjId}
use Rattle.lp_values.specs.declared.value.Value.{Value}
use Rattle.lp_cells.specs.Mapping.{pairs_there}

-- the pairs that stand in slots, in their order
abbrev pub filled : List (Option (Value × Value)) → List (Value × Value)
filled slots = flat_map option_to_list slots

-- a key stands in a slot
abbrev pub IsKeyAt : List (Option (Value × Value)) → Value → ℕ → Type 0
IsKeyAt slots k s = (v : Value) × (slice_get slots s ≡ Some (Some (k, v)))

-- no key stands in two slots
abbrev pub AreApart : List (Option (Value × Value)) → Type 0
AreApart slots = (k v w : Value) (s t : ℕ) → slice_get slots s ≡ Some (Some (k, v)) → slice_get slots t ≡ Some (Some (k, w)) → s ≡ t

-- the places that are noted name the slot of each key, and no key besides
pub record IsIndexed (places : List (Value × ℕ)) (slots : List (Option (Value × Value))) : Type 0 where
  pub sound : (k : Value) (s : ℕ) → lookup (value_eq k) places ≡ Some s → IsKeyAt slots k s
  pub whole : (k v : Value) (s : ℕ) → slice_get slots s ≡ Some (Some (k, v)) → lookup (value_eq k) places ≡ Some s
  pub counted : length places ≡ length (filled slots)

-- each key has some place, and those in the first n slots have theirs
pub record IsNumbered (n : ℕ) (places : List (Value × ℕ)) (slots : List (Option (Value × Value))) : Type 0 where
  pub apart : AreApart slots
  pub stored : (k : Value) → IsSome (lookup (value_eq k) places) → (s : ℕ) × IsKeyAt slots k s
  pub known : (k v : Value) (s : ℕ) → slice_get slots s ≡ Some (Some (k, v)) → IsSome (lookup (value_eq k) places)
  pub done : (k v : Value) (s : ℕ) → s < n → slice_get slots s ≡ Some (Some (k, v)) → lookup (value_eq k) places ≡ Some s
  pub counted : length places ≡ length (filled slots)

-- none of the first n slots has a dead key
abbrev pub IsSweptTo : (ObjId → Bool) → ℕ → List (Option (Value × Value)) → Type 0
IsSweptTo live n slots = pairs_there live (filled (take n slots)) ≡ filled (take n slots)

-- the key in a slot, where it is dead
abbrev pub dead_in : (ObjId → Bool) → Option (Value × Value) → Option Value
dead_in live None = None
dead_in live (Some p) = if is_some (live_part live p.0) then None else Some p.0
