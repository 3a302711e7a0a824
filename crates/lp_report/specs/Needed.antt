-- Which versions are needed, as marks at their numbers.
use Rattle.std.specs.Prelude.{ℕ, zero, suc, List, [], ◌∷◌, ◌++◌, Bool, true, false, Option, Some, None, get_or, set, length, nat_lt, if◌then◌else◌}
use Rattle.lp_values.specs.declared.id.ProgId.{ProgId}
use Rattle.lp_world.specs.Rows.{row_at}
use Rattle.lp_world.specs.declared.objects.Object.{Object}
use Rattle.lp_world.specs.declared.versions.Version.{Version}

-- whether a number is marked
abbrev pub is_marked : List Bool → ℕ → Bool
is_marked marks n = get_or marks n false

-- A version is needed; a number of which there is no mark needs nothing.
abbrev pub with_mark : List Bool → ProgId → List Bool
with_mark marks p = if nat_lt p.0 (length marks) then set marks p.0 true else marks

-- and each of some
abbrev pub with_marks : List Bool → List ProgId → List Bool
with_marks marks [] = marks
with_marks marks (p ∷ ps) = with_marks (with_mark marks p) ps

-- the versions of live objects, in the order of the rows
abbrev pub version_if_live : Option Object → List ProgId
version_if_live None = []
version_if_live (Some o) = if o.is_live then o.program ∷ [] else []

abbrev pub live_versions : List (Option Object) → List ProgId
live_versions [] = []
live_versions (r ∷ rows) = version_if_live r ++ live_versions rows

-- the versions of the parents of one
abbrev pub parents_in : Option Version → List ProgId
parents_in None = []
parents_in (Some v) = v.outline.parents

-- The kept versions below a number, the latest first, where the marked ones are needed by what stands above: a parent has a lower
-- number than its child.
abbrev pub kept_rows : List (Option Version) → ℕ → List Bool → List ProgId
kept_rows rows zero marks = []
kept_rows rows (suc n) marks = if is_marked marks n then record { 0 = n } ∷ kept_rows rows n (with_marks marks (parents_in (row_at rows n))) else kept_rows rows n marks
