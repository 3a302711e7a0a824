-- Texts in pieces round a separator, and pieces joined by it.
use Rattle.std.specs.Prelude.{ℕ, zero, suc, ◌≡◌, ◌+◌, ◌-◌, ◌<◌, ◌≤◌, List, [], ◌∷◌, map, Option, Some, None, nat_eq, length, drop, take, if◌then◌else◌, Result, Ok, Err, Vec}
use Rattle.std.specs.List.{starts_with, join_by}
use Rattle.std.specs.declared.alloc.Global.{Global}
use Rattle.lp_text.specs.declared.fault.TextFault.{TextFault}
use Rattle.lp_text.specs.declared.fault.TextFault.TheVariants.{TooLong, BadFormat, NoMemory}
use Rattle.lp_values.specs.Limits.{max_code_points}

-- a code point before the first of some pieces
abbrev pub with_head : ℕ → List (List ℕ) → List (List ℕ)
with_head c [] = (c ∷ []) ∷ []
with_head c (p ∷ ps) = (c ∷ p) ∷ ps

-- the pieces round a separator that is not empty, where `skip` code points of one are still to be passed
abbrev pub pieces_after : List ℕ → ℕ → List ℕ → List (List ℕ)
pieces_after by skip [] = [] ∷ []
pieces_after by (suc n) (c ∷ cs) = pieces_after by n cs
pieces_after by zero (c ∷ cs) = if starts_with nat_eq (c ∷ cs) by then [] ∷ pieces_after by (length by - 1) cs else with_head c (pieces_after by 0 cs)

-- the pieces round a separator that is not empty
abbrev pub pieces : List ℕ → List ℕ → List (List ℕ)
pieces by cs = pieces_after by 0 cs

-- the pieces of a text round a separator: round an empty one each code point is one
abbrev pub exploded : List ℕ → List ℕ → List (List ℕ)
exploded by cs = if nat_eq (length by) 0 then map (λ c. c ∷ []) cs else pieces by cs

-- pieces with a separator between each two
abbrev pub imploded : List ℕ → List (List ℕ) → List ℕ
imploded by ps = join_by (λ p. p) by ps

-- the pieces by the first place of the separator: none, so there is one piece; or what stands before it, and the pieces of the rest
abbrev pub AreRoundFirst : List ℕ → List ℕ → List (List ℕ) → Option ℕ → Type 0
AreRoundFirst by cs ps None = ps ≡ cs ∷ []
AreRoundFirst by cs ps (Some i) = ps ≡ take i cs ∷ pieces by (drop (i + length by) cs)

-- the answer is these pieces of a text of at most 100000 code points, and exactly above that it is TooLong; want of memory comes last
abbrev pub GivesPieces : Result (Vec (List ℕ) Global) TextFault → List ℕ → List (List ℕ) → Type 0
GivesPieces (Ok v) cs ps = (v.items ≡ ps) × (length cs ≤ max_code_points)
GivesPieces (Err TooLong) cs ps = max_code_points < length cs
GivesPieces (Err (BadFormat at)) cs ps = ⊥
GivesPieces (Err NoMemory) cs ps = length cs ≤ max_code_points

-- the pieces of the rest from a place on, by the place of the separator that follows
abbrev pub AreNext : List ℕ → List ℕ → ℕ → Option ℕ → Type 0
AreNext by cs from None = pieces by (drop from cs) ≡ drop from cs ∷ []
AreNext by cs from (Some i) = (from ≤ i) × (i + length by ≤ length cs) × (pieces by (drop from cs) ≡ take (i - from) (drop from cs) ∷ pieces by (drop (i + length by) cs))
