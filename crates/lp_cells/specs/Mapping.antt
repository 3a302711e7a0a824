-- Mappings: lists of pairs in order of insertion, as read.
use Rattle.std.specs.Prelude.{◌≡◌, ◌≤◌, Bool, true, false, ℕ, List, [], ◌||◌, Option, None, is_some, filter, length, map, nat_lt, if◌then◌else◌}
use Rattle.std.specs.List.{IsDistinct, count_by}
use Rattle.std.specs.Map.{lookup, remove_entry}
use Rattle.indexmap.specs.IndexMap.{insert_entry, insert_all}
use Rattle.lp_values.specs.Read.{as_read, live_part, value_eq, same}
use Rattle.lp_values.specs.declared.id.ObjId.{ObjId}
use Rattle.lp_values.specs.declared.value.Value.{Value}
use Rattle.lp_values.specs.declared.value.Value.TheVariants.{Int, Str, Arr, Map, Obj}
use Rattle.lp_values.specs.Limits.{max_items}

-- as read: a pair whose key is a destructed object is not there
abbrev pub pairs_there : (ObjId → Bool) → List (Value × Value) → List (Value × Value)
pairs_there live ps = filter (λ p. is_some (live_part live p.0)) ps

-- the value at a key: that of the pair that is there and whose key is equal as read
abbrev pub value_at_key : (ObjId → Bool) → List (Value × Value) → Value → Option Value
value_at_key live ps k = lookup (same live k) (pairs_there live ps)

-- a put needs no sweep: the key is there, or fewer than 10000 pairs are stored
abbrev pub has_room_for : (ObjId → Bool) → List (Value × Value) → Value → Bool
has_room_for live ps k = is_some (value_at_key live ps k) || nat_lt (length ps) max_items

-- the stored pairs that a put finds: a full mapping gives up its dead pairs for a new key
abbrev pub pairs_to_put : (ObjId → Bool) → List (Value × Value) → Value → List (Value × Value)
pairs_to_put live ps k = if has_room_for live ps k then ps else pairs_there live ps

-- a put: a key that is there keeps its place and gets the value, a new key is read and goes last
abbrev pub pairs_put : (ObjId → Bool) → List (Value × Value) → Value → Value → List (Value × Value)
pairs_put live ps k v = insert_entry value_eq (pairs_to_put live ps k) (as_read live k) v

-- a put is refused exactly for a new key, where 10000 pairs are there
abbrev pub IsFullFor : (ObjId → Bool) → List (Value × Value) → Value → Type 0
IsFullFor live ps k = (value_at_key live ps k ≡ None) × (max_items ≤ length (pairs_there live ps))

-- a drop: the pair with the key goes, the others keep their order
abbrev pub pairs_dropped : (ObjId → Bool) → List (Value × Value) → Value → List (Value × Value)
pairs_dropped live ps k = remove_entry (value_eq (as_read live k)) ps

-- the pairs of a new mapping: a later equal key wins at the first one's place
abbrev pub pairs_of : List (Value × Value) → List (Value × Value)
pairs_of ps = insert_all value_eq [] ps

-- whether a value is a reference to an object, live or destructed
abbrev pub is_object : Value → Bool
is_object (Int n) = false
is_object (Str s) = false
is_object (Arr c) = false
is_object (Map c) = false
is_object (Obj o) = true

-- no two stored keys are one value
abbrev pub HasDistinctKeys : List (Value × Value) → Type 0
HasDistinctKeys ps = IsDistinct value_eq (map (λ p. p.0) ps)

-- how many keys are objects. Each `Pairs` keeps this number, so as an `abbrev` it would stand open in the goals of
-- every crate that has a `Pairs`, where tactics then stop at their limits.
unfoldable pub objects_in : List (Value × Value) → ℕ
objects_in ps = count_by (λ p. is_object p.0) ps
