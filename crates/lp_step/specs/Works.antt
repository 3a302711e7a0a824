-- What an operator with its prices comes to, on the state alone.
use Rattle.std.specs.Prelude.{◌≡◌, ◌++◌, ◌∷◌, [], ℕ, ◌-◌, ⊤, List, Option, Bool, true, false, length, nat_lt}
use Rattle.lp_tree.specs.declared.operator.BinOp.{BinOp}
use Rattle.lp_tree.specs.declared.operator.Step.{Step}
use Rattle.lp_tree.specs.declared.operator.UnOp.{UnOp}
use Rattle.lp_values.specs.declared.id.ObjId.{ObjId}
use Rattle.lp_values.specs.declared.value.Value.{Value}
use Rattle.lp_cells.specs.Cells.{IsThere, Store, with_cell}
use Rattle.lp_language.specs.Operations.{step_effect}
use Rattle.lp_ops.specs.Effects.{reference}
use Rattle.lp_ops.specs.Operands.{operand}
use Rattle.lp_ops.specs.Operators as operators
use Rattle.lp_ops.specs.Prices.{binary_after, binary_before, size_made}
use Rattle.lp_ops.specs.declared.effect.Effect.{Effect}
use Rattle.lp_ops.specs.declared.effect.Effect.TheVariants as effects
use Rattle.lp_world.specs.declared.objects.Object.{Object}
use Rattle.lp_world.specs.Rows.{live_in}
use Rattle.lp_world.specs.Stands.{IsPart}
use Rattle.lp_step.specs.declared.worked.Worked.{Worked}
use Rattle.lp_step.specs.declared.worked.Worked.TheVariants as worked

-- the price of the result is paid, or the budget is spent with the result made
abbrev pub IsWorked : Bool → Value → Store → ℕ → Worked → Store → ℕ → Type 0
IsWorked true v cells left d new budget = (d ≡ worked.Spent) × (new ≡ cells) × (budget ≡ 0)
IsWorked false v cells left d new budget = (d ≡ worked.Value v) × (new ≡ cells) × (budget ≡ left)

-- an effect comes
abbrev pub Acts : Effect → ℕ → Store → ℕ → Worked → Store → ℕ → Type 0
Acts (effects.Gives v) after cells left d new budget = IsWorked (nat_lt left after) v cells (left - after) d new budget
Acts (effects.Makes x) after cells left d new budget = IsWorked (nat_lt left after) (reference x (length cells)) (with_cell cells x) (left - after) d new budget
Acts (effects.Fault e) after cells left d new budget = (d ≡ worked.Error e) × (new ≡ cells) × (budget ≡ left)

-- a price is paid first
abbrev pub WorksBy : Bool → ℕ → Effect → ℕ → Store → ℕ → Worked → Store → ℕ → Type 0
WorksBy true before e after cells old d new budget = (d ≡ worked.Spent) × (new ≡ cells) × (budget ≡ 0)
WorksBy false before e after cells old d new budget = Acts e after cells (old - before) d new budget

abbrev pub Works : ℕ → Effect → ℕ → Store → ℕ → Worked → Store → ℕ → Type 0
Works before e after cells old d new budget = WorksBy (nat_lt old before) before e after cells old d new budget

-- a value that it came to is there
abbrev pub IsWorkedThere : Store → Worked → Type 0
IsWorkedThere cells (worked.Value v) = IsThere cells v
IsWorkedThere cells (worked.Error e) = ⊤
IsWorkedThere cells worked.Spent = ⊤

-- what an effect gives or makes is as long in these cells as in all of which they are a part
abbrev pub AreSizesSame : (ObjId → Bool) → Store → Effect → Type 0
AreSizesSame l part e = (whole : Store) → IsPart part whole → size_made l part e ≡ size_made l whole e

-- On the topmost values of the stack

-- an index that is read: of the two topmost values
abbrev pub IndexesOn : Bool → List Value → List Value → List (Option Object) → Store → ℕ → Worked → ℕ → Type 0
IndexesOn back old new objects cells budget0 d budget1 = (x : Value) × (i : Value) × (old ≡ (new ++ x ∷ []) ++ i ∷ []) × IsThere cells x × IsThere cells i
    × Works 1 (operators.index (live_in objects) back (operand (live_in objects) cells x) (operand (live_in objects) cells i)) 0 cells budget0 d cells budget1

-- a prefix operator, on the topmost one
abbrev pub UnaryOn : UnOp → List Value → List Value → List (Option Object) → Store → ℕ → Worked → ℕ → Type 0
UnaryOn op old new objects cells budget0 d budget1 = (x : Value) × (old ≡ new ++ x ∷ []) × IsThere cells x
    × Works 1 (operators.unary op (operand (live_in objects) cells x)) 0 cells budget0 d cells budget1

-- one more or one less, of the topmost one
abbrev pub SteppedOn : Step → List Value → List Value → List (Option Object) → Store → ℕ → Worked → ℕ → Type 0
SteppedOn step old new objects cells budget0 d budget1 = (x : Value) × (old ≡ new ++ x ∷ []) × IsThere cells x
    × Works 1 (step_effect step (operand (live_in objects) cells x)) 0 cells budget0 d cells budget1

-- a binary operator
abbrev pub WorksOn : BinOp → List Value → List Value → List (Option Object) → Store → ℕ → Worked → Store → ℕ → Type 0
WorksOn op old new objects cells budget0 d cells1 budget1 = (x : Value) × (y : Value) × (old ≡ (new ++ x ∷ []) ++ y ∷ []) × IsThere cells x × IsThere cells y
    × Works (binary_before op (operand (live_in objects) cells x) (operand (live_in objects) cells y)) (operators.binary (live_in objects) op (operand (live_in objects) cells x) (operand (live_in objects) cells y))
    (binary_after (live_in objects) op cells (operators.binary (live_in objects) op (operand (live_in objects) cells x) (operand (live_in objects) cells y))) cells budget0 d cells1 budget1
    × (nat_lt budget0 (binary_before op (operand (live_in objects) cells x) (operand (live_in objects) cells y)) ≡ false
    → AreSizesSame (live_in objects) cells (operators.binary (live_in objects) op (operand (live_in objects) cells x) (operand (live_in objects) cells y)))
