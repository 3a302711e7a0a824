-- What a text feeds a hasher.
use Rattle.std.specs.Prelude.{ℕ, ◌+◌, ◌*◌, List, ◌∷◌, ◌++◌, length}
use Rattle.std.specs.Hash as fed
use Rattle.std.specs.List.{flat_map}

-- four code points in one number
abbrev pub four : ℕ → ℕ → ℕ → ℕ → ℕ
four a b c d = a + b * 4294967296 + c * 18446744073709551616 + d * 79228162514264337593543950336

-- code points, four in one write, and then those that are left
unfoldable pub fours : List ℕ → List (List ℕ)
fours (a ∷ b ∷ c ∷ d ∷ cs) = fed.u128 (four a b c d) ++ fours cs
fours cs = flat_map fed.char cs

-- the length, and then the code points
abbrev pub text_input : List ℕ → List (List ℕ)
text_input cs = fed.usize (length cs) ++ fours cs
