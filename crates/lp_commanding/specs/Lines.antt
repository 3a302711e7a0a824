-- The letters of a line.
use Rattle.std.specs.Prelude.{ℕ, Bool, nat_eq, not}

-- a letter of a verb is no space
abbrev pub is_typed : ℕ → Bool
is_typed c = not (nat_eq c 32)
