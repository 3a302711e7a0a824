-- Values of options.
use Rattle.std.specs.Prelude.{ℕ, List, [], ◌∷◌, ◌==◌, Bool, false, not, Option, Some, None}
use Rattle.lp_script.specs.Reading.{is_between, number_named}

-- a value of an option is not empty, and does not begin with `-` (45)
abbrev pub is_value : List ℕ → Bool
is_value [] = false
is_value (c ∷ rest) = not (c == 45)

-- the number that a value is, in decimal digits without sign and without a leading zero, if it is one from `low` up to `high`
abbrev pub number_in : ℕ → ℕ → Option (List ℕ) → Option ℕ
number_in low high None = None
number_in low high (Some value) = number_named (is_between low high) value
