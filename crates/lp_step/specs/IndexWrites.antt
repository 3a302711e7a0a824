-- A write at an index: what it does to the cells, and with its price on the stack.
use Rattle.std.specs.Prelude.{◌≡◌, ◌++◌, ◌∷◌, [], ℕ, ℤ, ◌-◌, ⊤, List, Option, Some, None, Bool, true, false, ◌&&◌, not, is_some, if◌then◌else◌, IsSome, Result, Ok, Err, length, nat_le, nat_lt, slice_set}
use Rattle.lp_tree.specs.declared.expr.Edge.{Edge}
use Rattle.lp_tree.specs.declared.expr.Edge.TheVariants.{Front}
use Rattle.lp_values.specs.Errors.{plain}
use Rattle.lp_values.specs.Limits.{max_items}
use Rattle.lp_values.specs.declared.error.ErrorKind.TheVariants.{BadIndex, BadOperands, TooLong}
use Rattle.lp_values.specs.declared.error.RunError.{RunError}
use Rattle.lp_values.specs.declared.id.CellId.{CellId}
use Rattle.lp_values.specs.declared.id.ObjId.{ObjId}
use Rattle.lp_values.specs.declared.value.Value.{Value}
use Rattle.lp_cells.specs.Cells.{IsThere, Store, content_at, content_set, pairs_at}
use Rattle.lp_cells.specs.Mapping.{pairs_put, pairs_there, value_at_key}
use Rattle.lp_cells.specs.declared.content.Content.{Content}
use Rattle.lp_cells.specs.declared.content.Content.TheVariants as contents
use Rattle.lp_language.specs.Operations.{is_back, is_in}
use Rattle.lp_ops.specs.Operands.{Opened, Number, Array, Mapping, operand}
use Rattle.lp_ops.specs.Operators.{from_zero, place_of}
use Rattle.lp_ops.specs.declared.fault.OpFault.{OpFault}
use Rattle.lp_ops.specs.declared.fault.OpFault.TheVariants.{NoMemory, Run}
use Rattle.lp_world.specs.declared.objects.Object.{Object as Row}
use Rattle.lp_world.specs.Rows.{live_in}
use Rattle.lp_step.specs.declared.worked.Worked.{Worked}
use Rattle.lp_step.specs.declared.worked.Worked.TheVariants as worked

-- what a write does: a cell gets another content, or it is refused
pub data Write : Type 0 where
  Writes : CellId → Content → Write
  Refuses : RunError → Write

-- the item at a place of an array, which is there
abbrev pub item_write : CellId → ℤ → List Value → Value → Write
item_write c i vs v = if is_in i (length vs) then Writes c (contents.Array (slice_set vs (from_zero i) v)) else Refuses (plain BadIndex)

-- a new key where a mapping has as many pairs as may be
abbrev pub is_full : (ObjId → Bool) → List (Value × Value) → Value → Bool
is_full live ps k = not (is_some (value_at_key live ps k)) && nat_le max_items (length (pairs_there live ps))

-- the value at a key of a mapping
abbrev pub pair_write : (ObjId → Bool) → CellId → Option (List (Value × Value)) → Value → Value → Write
pair_write live c None k v = Refuses (plain BadOperands)
pair_write live c (Some ps) k v = if is_full live ps k then Refuses (plain TooLong) else Writes c (contents.Mapping (pairs_put live ps k v))

-- `x[i] = v` and `x[<i] = v`, of opened operands, the index, and the value
abbrev pub write : (ObjId → Bool) → Store → Edge → Opened → Opened → Value → Value → Write
write live cells edge (Array c vs) (Number n) i v = item_write c (place_of (is_back edge) n (length vs)) vs v
write live cells Front (Mapping c ps) k i v = pair_write live c (pairs_at cells c) i v
write live cells edge _ _ i v = Refuses (plain BadOperands)

-- a call that writes answers so, with the cells before and after; on a refusal no cell changes
abbrev pub IsWritten : Write → Store → Store → Type 0
IsWritten (Writes c x) old new = IsSome (content_at old c) × (new ≡ content_set old c x)
IsWritten (Refuses e) old new = ⊥

abbrev pub IsUnwritten : Write → Store → Store → OpFault → Type 0
IsUnwritten w old new NoMemory = ⊤
IsUnwritten w old new (Run e) = (w ≡ Refuses e) × (new ≡ old)

abbrev pub Puts : {T : Type 0} → Write → Store → Store → Result T OpFault → Type 0
Puts w old new (Ok u) = IsWritten w old new
Puts w old new (Err f) = IsUnwritten w old new f

-- with its price of 1: the value, once it is written
abbrev pub Wrote : Write → Value → Store → ℕ → Worked → Store → ℕ → Type 0
Wrote (Writes c x) v cells left d new budget = IsSome (content_at cells c) × (d ≡ worked.Value v) × (new ≡ content_set cells c x) × (budget ≡ left)
Wrote (Refuses e) v cells left d new budget = (d ≡ worked.Error e) × (new ≡ cells) × (budget ≡ left)

abbrev pub WritesBy : Bool → Write → Value → Store → ℕ → Worked → Store → ℕ → Type 0
WritesBy true w v cells old d new budget = (d ≡ worked.Spent) × (new ≡ cells) × (budget ≡ 0)
WritesBy false w v cells old d new budget = Wrote w v cells (old - 1) d new budget

abbrev pub WritesFor : Write → Value → Store → ℕ → Worked → Store → ℕ → Type 0
WritesFor w v cells old d new budget = WritesBy (nat_lt old 1) w v cells old d new budget

-- of the three topmost values: the container, the index, and on top the value
abbrev pub WritesOn : Edge → List Value → List Value → List (Option Row) → Store → ℕ → Worked → Store → ℕ → Type 0
WritesOn edge old new objects cells budget0 d cells1 budget1 = (x : Value) × (i : Value) × (v : Value) × (old ≡ ((new ++ x ∷ []) ++ i ∷ []) ++ v ∷ []) × IsThere cells x × IsThere cells i × IsThere cells v
    × WritesFor (write (live_in objects) cells edge (operand (live_in objects) cells x) (operand (live_in objects) cells i) i v) v cells budget0 d cells1 budget1
