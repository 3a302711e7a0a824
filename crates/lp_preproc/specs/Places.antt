-- Places of names among the parameters of a macro.
use Rattle.std.specs.Prelude.{◌≡◌, ℕ, suc, List, [], ◌∷◌, ◌++◌, Bool, true, false, Option, Some, None, IsSome, if◌then◌else◌}
use Rattle.std.specs.Option.{option_map}
use Rattle.lp_preproc.specs.Names.{same_name}

-- the first place of a name
abbrev pub place_of : List ℕ → List (List ℕ) → Option ℕ
place_of n [] = None
place_of n (p ∷ ps) = if same_name n p then Some 0 else option_map suc (place_of n ps)

-- A name was put behind the others, or it was there and nothing changed.
abbrev pub IsAdded : List ℕ → List (List ℕ) → List (List ℕ) → Bool → Type 0
IsAdded n old new true = (place_of n old ≡ None) × (new ≡ old ++ n ∷ [])
IsAdded n old new false = IsSome (place_of n old) × (new ≡ old)
