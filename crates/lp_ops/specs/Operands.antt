-- What an operator sees of its operands.
use Rattle.std.specs.Prelude.{Bool, ℕ, ℤ, List, length}
use Rattle.lp_values.specs.declared.id.CellId.{CellId}
use Rattle.lp_values.specs.declared.id.ObjId.{ObjId}
use Rattle.lp_values.specs.declared.value.Value.{Value}
use Rattle.lp_values.specs.declared.value.Value.TheVariants.{Int, Str, Arr, Map, Obj}
use Rattle.lp_values.specs.Read.{as_read}
use Rattle.lp_cells.specs.Cells.{Store, items_of, stored_pairs}
use Rattle.lp_cells.specs.Mapping.{pairs_there}

-- a value with what an array holds, and with the pairs that are there in a mapping
pub data Opened : Type 0 where
  Number : ℤ → Opened
  Chars : List ℕ → Opened
  Array : CellId → List Value → Opened
  Mapping : CellId → List (Value × Value) → Opened
  Object : ObjId → Opened

-- a value that was read, opened by one level
abbrev pub opened : (ObjId → Bool) → Store → Value → Opened
opened live cells (Int n) = Number n
opened live cells (Str s) = Chars s
opened live cells (Arr c) = Array c (items_of cells c)
opened live cells (Map c) = Mapping c (pairs_there live (stored_pairs cells c))
opened live cells (Obj o) = Object o

-- an operand: a value as read, opened
abbrev pub operand : (ObjId → Bool) → Store → Value → Opened
operand live cells v = opened live cells (as_read live v)

-- the value again
abbrev pub value_of : Opened → Value
value_of (Number n) = Int n
value_of (Chars s) = Str s
value_of (Array c vs) = Arr c
value_of (Mapping c ps) = Map c
value_of (Object o) = Obj o

-- size: the length of a text, an array or a mapping
abbrev pub size_of : Opened → ℕ
size_of (Number n) = 0
size_of (Chars s) = length s
size_of (Array c vs) = length vs
size_of (Mapping c ps) = length ps
size_of (Object o) = 0
