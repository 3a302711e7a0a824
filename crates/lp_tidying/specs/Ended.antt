-- What ended is forgotten.
use Rattle.std.specs.Prelude.{List, [], ◌∷◌, Bool, false, not, ◌&&◌, Option, Some, None, slice_set, if◌then◌else◌}
use Rattle.lp_values.specs.declared.id.ObjId.{ObjId}
use Rattle.lp_world.specs.Rows.{is_out_state, row_at}
use Rattle.lp_world.specs.declared.objects.Object.{Object}

-- whether the object of a row ended, and its variables are in memory still
abbrev pub is_ended : Option Object → Bool
is_ended None = false
is_ended (Some o) = not o.is_live && not (is_out_state o.state)

-- the rows without an object, if it ended
abbrev pub without_row : List (Option Object) → ObjId → List (Option Object)
without_row rows o = if is_ended (row_at rows o.0) then slice_set rows o.0 None else rows

-- the rows without those of some objects that ended
abbrev pub without_rows : List (Option Object) → List ObjId → List (Option Object)
without_rows rows [] = rows
without_rows rows (o ∷ os) = without_rows (without_row rows o) os
