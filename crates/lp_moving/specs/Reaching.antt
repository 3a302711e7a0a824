-- Who is in reach of whom, by the table of places.
use Rattle.std.specs.Prelude.{Bool, false, ◌||◌, Option, Some, None}
use Rattle.std.specs.Ordering.{nat_cmp}
use Rattle.std.specs.BTreeMap.{get}
use Rattle.lp_values.specs.declared.id.ObjId.{ObjId}
use Rattle.lp_places.specs.Places.{is_at, is_object}
use Rattle.lp_places.specs.declared.places.Places.{Places}

-- where the table of places has an object
abbrev pub place_in : Places → ObjId → Option ObjId
place_in t o = get nat_cmp t.lyings.forward o.0

-- who is in reach of whom, where both are
abbrev pub is_beside : Option ObjId → Option ObjId → ObjId → Bool
is_beside None place giver = false
is_beside (Some e) place giver = is_object giver e || is_at place e

abbrev pub reaches_by : Option ObjId → Option ObjId → ObjId → ObjId → Bool
reaches_by around place holder giver = is_object giver holder || is_at place holder || is_beside around place giver

abbrev pub reached_in : Places → ObjId → ObjId → Bool
reached_in t holder giver = reaches_by (place_in t holder) (place_in t giver) holder giver
