-- Operators on integers, whose result is written in the place of the operands.
use Rattle.std.specs.Prelude.{◌≡◌, ◌++◌, ◌∷◌, [], ℕ, ℤ, List, Option, Bool, true, false}
use Rattle.lp_tree.specs.declared.operator.BinOp.{BinOp}
use Rattle.lp_tree.specs.declared.operator.Step.{Step}
use Rattle.lp_values.specs.declared.value.Value.{Value}
use Rattle.lp_values.specs.declared.value.Value.TheVariants.{Int}
use Rattle.lp_cells.specs.Cells.{Store}
use Rattle.lp_world.specs.declared.objects.Object.{Object}
use Rattle.lp_step.specs.declared.worked.Worked.TheVariants as worked
use Rattle.lp_step.specs.Works.{SteppedOn, WorksOn}

-- a binary operator came to an integer, which is on top; or nothing was done
abbrev pub InPlace : BinOp → List Value → List Value → ℕ → Bool → ℕ → Type 0
InPlace op old new before true after = (rest : List Value) × (k : ℤ) × (new ≡ rest ++ Int k ∷ []) × ((objects : List (Option Object)) (cells : Store) → WorksOn op old rest objects cells before (worked.Value (Int k)) cells after)
InPlace op old new before false after = (new ≡ old) × (after ≡ before)

-- one more or one less likewise
abbrev pub CountsInPlace : Step → List Value → List Value → ℕ → Bool → ℕ → Type 0
CountsInPlace step old new before true after = (rest : List Value) × (k : ℤ) × (new ≡ rest ++ Int k ∷ []) × ((objects : List (Option Object)) (cells : Store) → SteppedOn step old rest objects cells before (worked.Value (Int k)) after)
CountsInPlace step old new before false after = (new ≡ old) × (after ≡ before)
