-- Loops over a copy: how it is made, and what a turn leaves on the stack.
use Rattle.std.specs.Prelude.{◌≡◌, ◌++◌, ◌∷◌, [], ℕ, ◌+◌, ◌<◌, ◌^◌, pos, ⊤, List, Option, None, Some, Bool, true, false, Result, slice_get}
use Rattle.lp_values.specs.declared.value.Value.{Value}
use Rattle.lp_values.specs.declared.value.Value.TheVariants.{Int, Str, Arr, Map, Obj}
use Rattle.lp_cells.specs.Cells.{IsThere, Store, items_of, stored_pairs}
use Rattle.lp_isa.specs.Machine.{place_in}
use Rattle.lp_language.specs.Operations.{copy_effect, item_row, pair_row}
use Rattle.lp_ops.specs.Effects.{Meets}
use Rattle.lp_ops.specs.Operands.{operand}
use Rattle.lp_ops.specs.declared.fault.OpFault.{OpFault}
use Rattle.lp_world.specs.declared.objects.Object.{Object}
use Rattle.lp_world.specs.Rows.{live_in}
use Rattle.lp_world.specs.Matches.{laid}
use Rattle.lp_step.specs.declared.turns.Turn.{Turn}
use Rattle.lp_step.specs.declared.turns.Turn.TheVariants as turns

-- the copy of the topmost value is made
abbrev pub CopiesOn : List Value → List Value → List (Option Object) → Store → Store → Result Value OpFault → Type 0
CopiesOn old new objects cells0 cells1 r = (x : Value) × (old ≡ new ++ x ∷ []) × IsThere cells0 x × Meets (copy_effect (operand (live_in objects) cells0 x)) cells0 cells1 r

-- the row at a place of a copy, if there is one
abbrev pub row_in : Bool → Store → Value → ℕ → Option (List Value)
row_in is_pair cells (Arr c) k = item_row is_pair (slice_get (items_of cells c) k)
row_in is_pair cells (Map c) k = pair_row is_pair (slice_get (stored_pairs cells c) k)
row_in is_pair cells (Int n) k = None
row_in is_pair cells (Str cs) k = None
row_in is_pair cells (Obj o) k = None

-- and as what a turn gives
abbrev pub row_of : Turn → Option (List Value)
row_of turns.Over = None
row_of (turns.One v) = Some (v ∷ [])
row_of (turns.Two v w) = Some (v ∷ w ∷ [])

-- where a turn gives something the place behind it is an integer
abbrev pub HasNext : ℕ → Turn → Type 0
HasNext k turns.Over = ⊤
HasNext k (turns.One v) = k + 1 < 2 ^ 63
HasNext k (turns.Two v w) = k + 1 < 2 ^ 63

-- Where there is a row, the copy stays on the stack, above it lies the next place, and above that the row, its first value
-- on top. Else both are taken.
abbrev pub TurnsTo : Bool → Option (List Value) → List Value → Value → ℕ → List Value → Type 0
TurnsTo false row rest copy k new = (row ≡ None) × (new ≡ rest)
TurnsTo true row rest copy k new = (vs : List Value) × (row ≡ Some vs) × (new ≡ laid ((rest ++ copy ∷ []) ++ Int (pos (k + 1)) ∷ []) vs)

-- a turn, on a copy and a place in it
abbrev pub TurnsOn : Bool → List Value → List Value → Store → Bool → Type 0
TurnsOn is_pair old new cells goes_on = (rest : List Value) × (copy : Value) × (place : Value) × (old ≡ (rest ++ copy ∷ []) ++ place ∷ []) × IsThere cells copy
    × TurnsTo goes_on (row_in is_pair cells copy (place_in place)) rest copy (place_in place) new
