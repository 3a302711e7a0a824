-- Texts of one code point, to share.
use Rattle.std.specs.Prelude.{ℕ, ◌≡◌, ◌<◌, List, [], ◌∷◌, length, slice_index_or}

-- the text at each place is the code point of that number alone
abbrev pub AreSingles : List (List ℕ) → Type 0
AreSingles ts = (k : ℕ) (d : List ℕ) → k < length ts → slice_index_or ts k d ≡ k ∷ []
