-- Lists of open catches by their numbers.
use Rattle.std.specs.Prelude.{◌≡◌, ◌≤◌, ◌<◌, ℕ, suc, ⊤, ◌⊎◌, List, [], ◌∷◌, ◌++◌, Some, slice_get, length}
use Rattle.lp_instr.specs.Code.{Catching, or_none}
use Rattle.lp_verify.specs.declared.openings.Opening.{Opening}

abbrev pub catching : Opening → Catching
catching o = record { place = o.to; height = o.height }

-- the list with a number
abbrev pub list_at : List (List Catching) → ℕ → List Catching
list_at lists k = or_none (slice_get lists k)

-- each opening makes one list more: its catch before the list that was open round it
abbrev pub lists_on : List (List Catching) → List Opening → List (List Catching)
lists_on done [] = done
lists_on done (o ∷ os) = lists_on (done ++ ((catching o ∷ list_at done o.outer) ∷ [])) os

-- the list with number 0 is empty
abbrev pub lists_of : List Opening → List (List Catching)
lists_of os = lists_on ([] ∷ []) os

-- what is open round an opening has a lower number
abbrev pub AreLinked : ℕ → List Opening → Type 0
AreLinked k [] = ⊤
AreLinked k (o ∷ os) = (o.outer ≤ k) × AreLinked (suc k) os

-- two numbers have two lists
abbrev pub AreDistinct : List (List Catching) → Type 0
AreDistinct lists = (i j : ℕ) → i < length lists → j < length lists → list_at lists i ≡ list_at lists j → i ≡ j

pub record AreOpenings (os : List Opening) : Type 0 where
  pub linked : AreLinked 0 os
  pub distinct : AreDistinct (lists_of os)

-- one list of lists goes on with more
pub record GoesOn (old new : List (List Catching)) : Type 0 where
  pub more : List (List Catching)
  pub is : new ≡ old ++ more

-- an opening is put where it was not
abbrev pub Adds : List Opening → Opening → List Opening → Type 0
Adds os o new = (new ≡ os) ⊎ ((new ≡ os ++ (o ∷ [])) × ((j : ℕ) → slice_get os j ≡ Some o → ⊥))
