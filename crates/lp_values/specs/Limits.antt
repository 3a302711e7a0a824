-- The limits that hold for every value.
use Rattle.std.specs.Prelude.{ℕ}

-- how many items an array has at most, and how many pairs a mapping, as read
abbrev pub max_items : ℕ
max_items = 10000

-- how many code points a text has at most
abbrev pub max_code_points : ℕ
max_code_points = 100000
