-- What an operation costs, apart from what it gives: a part before it acts, and a part for its result.
use Rattle.std.specs.Prelude.{Bool, true, false, ℕ, ◌+◌, ◌/◌, List, if◌then◌else◌}
use Rattle.std.specs.List.{sum_by}
use Rattle.lp_tree.specs.declared.operator.BinOp.{BinOp}
use Rattle.lp_tree.specs.declared.operator.BinOp.TheVariants.{Add, Sub, And}
use Rattle.lp_values.specs.declared.id.ObjId.{ObjId}
use Rattle.lp_values.specs.declared.value.Value.{Value}
use Rattle.lp_cells.specs.Cells.{Store, size_read}
use Rattle.lp_ops.specs.declared.effect.Effect.{Effect}
use Rattle.lp_ops.specs.declared.effect.Effect.TheVariants.{Gives, Makes, Fault}
use Rattle.lp_ops.specs.declared.operation.Operation.{Operation}
use Rattle.lp_ops.specs.declared.operation.Operation.TheVariants.{Binary, Range, Literal}
use Rattle.lp_ops.specs.Operands.{Opened, operand, size_of}

-- which operations pay for the lengths of their operands and of their result: `+`, `-` and `&`, ranges and literals
abbrev pub binary_has_share : BinOp → Bool
binary_has_share Add = true
binary_has_share Sub = true
binary_has_share And = true
binary_has_share _ = false

abbrev pub has_share : Operation → Bool
has_share (Binary op) = binary_has_share op
has_share Range = true
has_share Literal = true
has_share _ = false

-- the share of a length: a sixteenth, rounded down
abbrev pub share : ℕ → ℕ
share n = n / 16

-- an operation pays 1 and the share of its operands' total length together before it acts
abbrev pub price_before : Operation → ℕ → ℕ
price_before op total = 1 + (if has_share op then share total else 0)

-- and the share of its result's length, rounded down by itself, after it
abbrev pub price_after : Operation → ℕ → ℕ
price_after op length = if has_share op then share length else 0

-- the length of what an effect gives or makes, as read
abbrev pub size_made : (ObjId → Bool) → Store → Effect → ℕ
size_made live cells (Gives v) = size_of (operand live cells v)
size_made live cells (Makes x) = size_read live x
size_made live cells (Fault e) = 0

-- the total length of the parts of a literal
abbrev pub total_size : (ObjId → Bool) → Store → List Value → ℕ
total_size live cells vs = sum_by (λ v. size_of (operand live cells v)) vs

-- a binary operator
abbrev pub binary_before : BinOp → Opened → Opened → ℕ
binary_before op a b = price_before (Binary op) (size_of a + size_of b)

abbrev pub binary_after : (ObjId → Bool) → BinOp → Store → Effect → ℕ
binary_after live op cells e = price_after (Binary op) (size_made live cells e)

-- a range: the lengths of the value and of both ends count
abbrev pub range_before : Opened → Opened → Opened → ℕ
range_before x a b = price_before Range (size_of x + size_of a + size_of b)

abbrev pub range_after : (ObjId → Bool) → Store → Effect → ℕ
range_after live cells e = price_after Range (size_made live cells e)

-- an array or a mapping that is spelled out
abbrev pub literal_before : (ObjId → Bool) → Store → List Value → ℕ
literal_before live cells parts = price_before Literal (total_size live cells parts)

abbrev pub literal_after : (ObjId → Bool) → Store → Effect → ℕ
literal_after live cells e = price_after Literal (size_made live cells e)
