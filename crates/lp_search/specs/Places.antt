-- Where a needle stands in a text, and the first such place.
use Rattle.std.specs.Prelude.{◌≡◌, ℕ, ◌+◌, ◌<◌, ◌≤◌, List, Option, length, slice_index, MatchOption}

-- P holds at no place from i up to j
abbrev pub Nowhere : (ℕ → Type 0) → ℕ → ℕ → Type 0
Nowhere P i j = (k : ℕ) → i ≤ k → k < j → ¬ P k

-- k lies from i up to j, and P holds at no place from i up to k
pub record NoneBefore (P : ℕ → Type 0) (i j k : ℕ) : Type 0 where
  pub low : i ≤ k
  pub high : k < j
  pub before : Nowhere P i k

-- r is the first place from i up to j where P holds
abbrev pub IsFirst : (ℕ → Type 0) → ℕ → ℕ → Option ℕ → Type 0
IsFirst P i j r = MatchOption r (Nowhere P i j) (λ k. NoneBefore P i j k × P k)

-- the m values of x stand in the n values of h from place k on
pub record OccursIn (x : ℕ → ℕ) (m : ℕ) (h : ℕ → ℕ) (n k : ℕ) : Type 0 where
  pub fits : k + m ≤ n
  pub reads : (j : ℕ) → j < m → h (k + j) ≡ x j

-- the needle stands in the text from place k on
abbrev pub Stands : List ℕ → List ℕ → ℕ → Type 0
Stands needle hay k = OccursIn (slice_index needle) (length needle) (slice_index hay) (length hay) k
