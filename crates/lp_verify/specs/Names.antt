-- Names of slots.
use Rattle.std.specs.Prelude.{◌≡◌, ℕ, Bool, List, [], ◌∷◌, ◌++◌, MatchBool, Contains, Some, slice_get}
use Rattle.lp_code.specs.declared.tables.Slot.{Slot}

-- no two slots have one name
abbrev pub AreDistinctNames : List Slot → Type 0
AreDistinctNames slots = (i j : ℕ) (x y : Slot) → slice_get slots i ≡ Some x → slice_get slots j ≡ Some y → x.name ≡ y.name → i ≡ j

-- a name is put last where it was not there
abbrev pub Puts : List (List ℕ) → List ℕ → List (List ℕ) → Bool → Type 0
Puts old name new r = MatchBool r ((new ≡ old ++ (name ∷ [])) × (Contains old name → ⊥)) (Contains old name)
