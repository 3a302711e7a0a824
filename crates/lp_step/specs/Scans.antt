-- Scans with their price, on the state alone.
use Rattle.std.specs.Prelude.{◌≡◌, ◌++◌, ◌∷◌, [], ℕ, ◌+◌, ◌-◌, pos, List, Option, None, Some, Bool, true, false, map, nat_lt}
use Rattle.lp_values.specs.declared.value.Value.{Value}
use Rattle.lp_values.specs.declared.value.Value.TheVariants.{Int}
use Rattle.lp_cells.specs.Cells.{IsThere, Store}
use Rattle.lp_language.specs.Course.{End, Gives, Stops, State, Failed, here, zero_value}
use Rattle.lp_language.specs.Operations.{scan_texts, scanned_value}
use Rattle.lp_ops.specs.Operands.{operand, size_of}
use Rattle.lp_ops.specs.Prices.{share}
use Rattle.lp_text.specs.declared.scan.Scanned.{Scanned}
use Rattle.lp_world.specs.declared.objects.Object.{Object}
use Rattle.lp_world.specs.Rows.{live_in}
use Rattle.lp_step.specs.declared.scans.Scanning.{Scanning}
use Rattle.lp_step.specs.declared.scans.Scanning.TheVariants as scanning

-- these were found
abbrev pub AreFound : List Scanned → Scanning → Type 0
AreFound xs (scanning.Values found) = found.items ≡ xs
AreFound xs (scanning.Error e) = ⊥
AreFound xs scanning.Spent = ⊥

-- a scan came to this end from this state, which it leaves as it is
abbrev pub Tells : End (List Value) → State → Scanning → Type 0
Tells (Gives vs t) s (scanning.Values found) = (t ≡ s) × (vs ≡ map scanned_value found.items)
Tells (Gives vs t) s (scanning.Error e) = ⊥
Tells (Gives vs t) s scanning.Spent = ⊥
Tells (Stops x t) s (scanning.Values found) = ⊥
Tells (Stops x t) s (scanning.Error e) = (t ≡ s) × (x ≡ here (Failed e))
Tells (Stops x t) s scanning.Spent = ⊥

-- its price is paid first
abbrev pub ScansBy : Bool → ℕ → (State → End (List Value)) → ℕ → Scanning → ℕ → Type 0
ScansBy true price end old d new = (d ≡ scanning.Spent) × (new ≡ 0)
ScansBy false price end old d new = (new ≡ old - price) × ((s : State) → Tells (end s) s d)

abbrev pub Scans : ℕ → (State → End (List Value)) → ℕ → Scanning → ℕ → Type 0
Scans price end old d new = ScansBy (nat_lt old price) price end old d new

-- on the topmost values: a text and a form, for so many places
abbrev pub ScansOn : ℕ → List Value → List Value → List (Option Object) → Store → ℕ → Scanning → ℕ → Type 0
ScansOn places old new objects cells budget0 d budget1 = (x : Value) × (form : Value) × (old ≡ (new ++ x ∷ []) ++ form ∷ [])
    × Scans (1 + share (size_of (operand (live_in objects) cells x) + size_of (operand (live_in objects) cells form)))
    (scan_texts (operand (live_in objects) cells x) (operand (live_in objects) cells form) places) budget0 d budget1
    × IsThere cells x × IsThere cells form

-- what lies on the stack for one place: its value and 1 above it, or 0 twice
abbrev pub mark : Option Value → List Value
mark None = zero_value ∷ zero_value ∷ []
mark (Some v) = Int (pos 1) ∷ v ∷ []
