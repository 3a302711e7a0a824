-- What a source tells of the bytes that are left, and a sink of the bytes that it has taken: none where it does not tell.
use Rattle.std.specs.Prelude.{◌≡◌, ℕ, ◌<◌, List, [], ◌++◌, length, take, Bool, false, true, ◌==◌, ◌&&◌, nat_lt, Option, None, Some, Result, Ok, Err, ⊤}
use Rattle.std.specs.Option.{option_map}
use Rattle.lp_io.specs.declared.outside.Failed.{Failed}
use Rattle.lp_io.specs.declared.put.PutFault.{PutFault}
use Rattle.lp_io.specs.declared.put.PutFault.TheVariants as put

-- what is told once these bytes were added behind what was told
abbrev pub after_adding : Option (List ℕ) → List ℕ → Option (List ℕ)
after_adding told bytes = option_map (λ xs. xs ++ bytes) told

-- what was told before these bytes were given away from the front
abbrev pub before_giving : List ℕ → Option (List ℕ) → Option (List ℕ)
before_giving bytes told = option_map (λ xs. bytes ++ xs) told

-- nothing is left, where that is told
abbrev pub IsAtEnd : Option (List ℕ) → Type 0
IsAtEnd None = ⊤
IsAtEnd (Some xs) = xs ≡ []

-- all that was taken was passed on, where that is told
abbrev pub IsPassedOn : Option Bool → Type 0
IsPassedOn None = ⊤
IsPassedOn (Some passed) = passed ≡ true

-- a write took no byte of a piece that has some
abbrev pub took_none : List ℕ → Result ℕ Failed → Bool
took_none piece (Ok n) = (n == 0) && nat_lt 0 (length piece)
took_none piece (Err e) = false

-- a front of the piece was added, and not the whole
abbrev pub IsCut : Option (List ℕ) → Option (List ℕ) → List ℕ → Type 0
IsCut before now piece = (n : ℕ) × (n < length piece) × (now ≡ after_adding before (take n piece))

-- the answer is that a write failed
abbrev pub is_failed : Result (Unit {0}) PutFault → Bool
is_failed (Ok u) = false
is_failed (Err put.Failed) = true
is_failed (Err put.ZeroTaken) = false

-- the answer is that a write took nothing
abbrev pub is_zero_taken : Result (Unit {0}) PutFault → Bool
is_zero_taken (Ok u) = false
is_zero_taken (Err put.Failed) = false
is_zero_taken (Err put.ZeroTaken) = true
