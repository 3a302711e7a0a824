-- Ranges, of the topmost values.
use Rattle.std.specs.Prelude.{◌≡◌, ◌++◌, ◌∷◌, [], ℕ, ℤ, List, Option, Some, None}
use Rattle.lp_instr.specs.declared.instr.EndKind.{EndKind}
use Rattle.lp_instr.specs.declared.instr.EndKind.TheVariants as kinds
use Rattle.lp_values.specs.declared.value.Value.{Value}
use Rattle.lp_cells.specs.Cells.{IsThere, Store}
use Rattle.lp_language.specs.Course.{zero_value}
use Rattle.lp_language.specs.Operations.{bound_of, part_between}
use Rattle.lp_ops.specs.Operands.{Opened, Number, operand}
use Rattle.lp_ops.specs.Prices.{range_after, range_before}
use Rattle.lp_world.specs.declared.objects.Object.{Object}
use Rattle.lp_world.specs.Rows.{live_in}
use Rattle.lp_step.specs.declared.worked.Worked.{Worked}
use Rattle.lp_step.specs.Works.{Works}

-- an end of a range: the topmost value, or none where it is open
abbrev pub EndOn : EndKind → List Value → List Value → Value → Type 0
EndOn kinds.Start old new v = old ≡ new ++ v ∷ []
EndOn kinds.Back old new v = old ≡ new ++ v ∷ []
EndOn kinds.Open old new v = (old ≡ new) × (v ≡ zero_value)

-- the integer that an operand is
abbrev pub number_of : Opened → Option ℤ
number_of (Number n) = Some n
number_of _ = None

-- a range of a value, with its start and its end, where they are given, above it
abbrev pub RangesOn : EndKind → EndKind → List Value → List Value → List (Option Object) → Store → ℕ → Worked → Store → ℕ → Type 0
RangesOn from to old new objects cells budget0 d cells1 budget1 = (x : Value) × (a : Value) × (b : Value) × (mid : List Value) × EndOn to old mid b × EndOn from mid (new ++ x ∷ []) a × IsThere cells x × IsThere cells a × IsThere cells b
    × Works (range_before (operand (live_in objects) cells x) (operand (live_in objects) cells a) (operand (live_in objects) cells b)) (part_between (operand (live_in objects) cells x) (bound_of from (operand (live_in objects) cells a)) (bound_of to (operand (live_in objects) cells b)))
    (range_after (live_in objects) cells (part_between (operand (live_in objects) cells x) (bound_of from (operand (live_in objects) cells a)) (bound_of to (operand (live_in objects) cells b)))) cells budget0 d cells1 budget1
