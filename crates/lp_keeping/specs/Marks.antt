-- Which versions are needed, as marks at their numbers.
use Rattle.std.specs.Prelude.{ℕ, ◌+◌, List, [], ◌∷◌, Bool, true, false, cond, get_or, set, length, nat_lt, if◌then◌else◌}
use Rattle.lp_values.specs.declared.id.ProgId.{ProgId}

-- whether a number is marked
abbrev pub is_marked : List Bool → ℕ → Bool
is_marked marks n = get_or marks n false

-- A version is needed; a number of which there is no mark needs nothing.
abbrev pub with_mark : List Bool → ProgId → List Bool
with_mark marks p = if nat_lt p.0 (length marks) then set marks p.0 true else marks

-- and each of some
abbrev pub with_marks : List Bool → List ProgId → List Bool
with_marks marks [] = marks
with_marks marks (p ∷ ps) = with_marks (with_mark marks p) ps

-- how many marks are set
abbrev pub count : List Bool → ℕ
count [] = 0
count (b ∷ bs) = cond b 1 0 + count bs
