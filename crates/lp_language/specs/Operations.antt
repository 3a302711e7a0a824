-- What operators, places, literals, loops over items and scans do to the state. Trees and instructions share these.
use Rattle.lp_values.specs.Limits.{max_items}
use Rattle.std.specs.Prelude.{ℕ, ℤ, ◌+◌, ◌+ℤ◌, ◌-ℤ◌, pos, List, [], ◌∷◌, map, length, Bool, true, false, ◌&&◌, not, Option, Some, None, is_some, unwrap_or, slice_get, slice_set, nat_eq, nat_lt, if◌then◌else◌, codes, int_le, nat_le}
use Rattle.std.specs.List.{fold}
use Rattle.std.specs.Cmp.Lexicographic.{pointwise}
use Rattle.lp_tree.specs.declared.operator.BinOp.{BinOp}
use Rattle.lp_tree.specs.declared.operator.UnOp.{UnOp}
use Rattle.lp_tree.specs.declared.operator.Step.{Step}
use Rattle.lp_tree.specs.declared.operator.Step.TheVariants.{Up, Down}
use Rattle.lp_tree.specs.declared.expr.Edge.{Edge}
use Rattle.lp_tree.specs.declared.expr.Edge.TheVariants.{Front, Back}
use Rattle.lp_values.specs.declared.id.CellId.{CellId}
use Rattle.lp_values.specs.declared.id.ObjId.{ObjId}
use Rattle.lp_values.specs.declared.value.Value.{Value}
use Rattle.lp_values.specs.declared.value.Value.TheVariants.{Int, Str, Arr, Map, Obj}
use Rattle.lp_values.specs.declared.error.RunError.{RunError}
use Rattle.lp_values.specs.declared.error.ErrorKind.TheVariants.{BadOperands, BadIndex, TooLong, BadFormat, TooFewArgs}
use Rattle.lp_values.specs.Errors.{plain, bad_arg}
use Rattle.lp_values.specs.Read.{as_read, is_zero}
use Rattle.lp_cells.specs.declared.content.Content.TheVariants as content
use Rattle.lp_cells.specs.Cells.{Store, with_cell, content_set, item_set, items_of, pairs_at, stored_pairs}
use Rattle.lp_cells.specs.Mapping.{pairs_of, pairs_put, pairs_there, value_at_key}
use Rattle.lp_ops.specs.declared.effect.Effect.{Effect}
use Rattle.lp_ops.specs.declared.effect.Effect.TheVariants as effects
use Rattle.lp_ops.specs.declared.end.End.{End as RangeEnd}
use Rattle.lp_ops.specs.declared.end.End.TheVariants as ends
use Rattle.lp_ops.specs.Effects.{refused, reference, within}
use Rattle.lp_ops.specs.Integers.{whole}
use Rattle.lp_ops.specs.Operands.{Opened, Number, Chars, Array, Mapping, Object, operand, size_of}
use Rattle.lp_ops.specs.Operators as operators
use Rattle.lp_ops.specs.Operators.{array, mapping, from_zero, place_of}
use Rattle.lp_ops.specs.Prices.{share, binary_before, binary_after, range_before, range_after, size_made}
use Rattle.lp_text.specs.Forms.{parts, fault_of, count_of}
use Rattle.lp_text.specs.Scans.{scanned}
use Rattle.lp_text.specs.declared.scan.Scanned.{Scanned}
use Rattle.lp_text.specs.declared.scan.Scanned.TheVariants as scans
use Rattle.lp_instr.specs.declared.instr.EndKind.{EndKind}
use Rattle.lp_instr.specs.declared.instr.EndKind.TheVariants as kinds
use Rattle.lp_language.specs.World.{World, Object as ObjectOf, is_live, object_at, with_object, with_cells}
use Rattle.lp_language.specs.Course.{State, Scene, End, Gives, Stops, Failed, here, pay, zero_value}

-- Which objects are live, and the cells.
abbrev pub living : State → ObjId → Bool
living s o = is_live s.world o

abbrev pub cells_of : State → Store
cells_of s = s.world.cells

-- an operand, as read
abbrev pub seen : State → Value → Opened
seen s v = operand (living s) (cells_of s) v

-- whether a value reads as 0, which alone is false
unfoldable pub is_false : State → Value → Bool
is_false s v = is_zero (living s) v

abbrev pub with_world : State → World → State
with_world s w = record s { world = w }

abbrev pub with_store : State → Store → State
with_store s cells = with_world s (with_cells s.world cells)

-- An effect: its value or its new cell, once the price of the result is paid; or its error.
abbrev pub finished : ℕ → Effect → State → End Value
finished n (effects.Gives v) s = pay n s (Gives v)
finished n (effects.Makes x) s = pay n (with_store s (with_cell (cells_of s) x)) (Gives (reference x (length (cells_of s))))
finished n (effects.Fault e) s = Stops (here (Failed e)) s

abbrev pub fails : {A : Type 0} → RunError → State → End A
fails e s = Stops (here (Failed e)) s

-- Operators: the price before, then the effect, then the price of its result.
unfoldable pub unary : UnOp → Value → State → End Value
unary op x s = pay 1 s (finished 0 (operators.unary op (seen s x)))

unfoldable pub binary : BinOp → Value → Value → State → End Value
binary op x y s =
    let effect = operators.binary (living s) op (seen s x) (seen s y) in
    pay (binary_before op (seen s x) (seen s y)) s (finished (binary_after (living s) op (cells_of s) effect) effect)

abbrev pub is_back : Edge → Bool
is_back Front = false
is_back Back = true

-- `x[i]` and `x[<i]`
unfoldable pub item : Edge → Value → Value → State → End Value
item edge x i s = pay 1 s (finished 0 (operators.index (living s) (is_back edge) (seen s x) (seen s i)))

-- how an end of a range is meant: an integer from the front or from behind, or nothing
abbrev pub bound_of : EndKind → Opened → Option RangeEnd
bound_of kinds.Start (Number n) = Some (ends.Start n)
bound_of kinds.Back (Number n) = Some (ends.Back n)
bound_of kinds.Open x = Some ends.Open
bound_of kinds.Start _ = None
bound_of kinds.Back _ = None

abbrev pub part_between : Opened → Option RangeEnd → Option RangeEnd → Effect
part_between x (Some a) (Some b) = operators.range x a b
part_between x (Some a) None = refused BadOperands
part_between x None b = refused BadOperands

-- `x[a..b]`: an end that is not given is any value without a length
unfoldable pub range : EndKind → EndKind → Value → Value → Value → State → End Value
range from to x a b s =
    let effect = part_between (seen s x) (bound_of from (seen s a)) (bound_of to (seen s b)) in
    pay (range_before (seen s x) (seen s a) (seen s b)) s (finished (range_after (living s) (cells_of s) effect) effect)

-- `++` and `--`: of an integer
abbrev pub step_effect : Step → Opened → Effect
step_effect Up (Number n) = whole (n +ℤ pos 1)
step_effect Down (Number n) = whole (n -ℤ pos 1)
step_effect Up _ = refused BadOperands
step_effect Down _ = refused BadOperands

unfoldable pub stepped : Step → Value → State → End Value
stepped step x s = pay 1 s (finished 0 (step_effect step (seen s x)))

-- Literals: the lengths of the parts count as those of operands.
abbrev pub total_size : State → List Value → ℕ
total_size s vs = fold (λ n v. n + size_of (seen s v)) 0 vs

abbrev pub literal : ℕ → Effect → State → End Value
literal n effect s = pay (1 + share n) s (finished (share (size_made (living s) (cells_of s) effect)) effect)

-- `({ .. })`
unfoldable pub new_array : List Value → State → End Value
new_array vs s = literal (total_size s vs) (within (array vs)) s

-- `([ .. ])`: keys and values by turns; keys are read, and a later equal key wins at the first one's place
abbrev pub paired : State → List Value → List (Value × Value)
paired s [] = []
paired s (k ∷ []) = []
paired s (k ∷ v ∷ vs) = (as_read (living s) k, v) ∷ paired s vs

unfoldable pub new_mapping : List Value → State → End Value
new_mapping vs s = literal (total_size s vs) (within (mapping (pairs_of (paired s vs)))) s

-- Writing to an index costs 1. An item of an array is written at a place that is there; a key of a mapping gets the
-- value, unless the key is new and as many pairs are there as may be.
abbrev pub is_in : ℤ → ℕ → Bool
is_in i n = int_le (pos 0) i && nat_lt (from_zero i) n

abbrev pub is_full_for : State → List (Value × Value) → Value → Bool
is_full_for s ps k = not (is_some (value_at_key (living s) ps k)) && nat_le max_items (length (pairs_there (living s) ps))

abbrev pub put_item_at : CellId → ℤ → List Value → Value → State → End Value
put_item_at c i vs v s = if is_in i (length vs) then Gives v (with_store s (item_set (cells_of s) c (from_zero i) v)) else fails (plain BadIndex) s

abbrev pub put_pair : CellId → Option (List (Value × Value)) → Value → Value → State → End Value
put_pair c None k v s = fails (plain BadOperands) s
put_pair c (Some ps) k v s = if is_full_for s ps k then fails (plain TooLong) s else Gives v (with_store s (content_set (cells_of s) c (content.Mapping (pairs_put (living s) ps k v))))

abbrev pub put : Edge → Opened → Opened → Value → Value → State → End Value
put edge (Array c vs) (Number n) i v s = put_item_at c (place_of (is_back edge) n (length vs)) vs v s
put Front (Mapping c ps) k i v s = put_pair c (pairs_at (cells_of s) c) i v s
put edge _ _ i v s = fails (plain BadOperands) s

-- `x[i] = v` and `x[<i] = v`: the value is v
unfoldable pub put_item : Edge → Value → Value → Value → State → End Value
put_item edge x i v s = pay 1 s (put edge (seen s x) (seen s i) i v)

-- Locals, by their slots; globals, by their places among those of the part's version and its parents.
unfoldable pub local_of : State → ℕ → Value
local_of s k = unwrap_or (slice_get s.locals k) zero_value

unfoldable pub with_local : State → ℕ → Value → State
with_local s k v = record s { locals = slice_set s.locals k v }

unfoldable pub global_of : Scene → State → ℕ → Value
global_of c s k = unwrap_or (slice_get (object_at s.world c.this).variables (c.base + k)) zero_value

abbrev pub with_variable : ObjectOf → ℕ → Value → ObjectOf
with_variable x k v = record x { variables = slice_set x.variables k v }

unfoldable pub with_global : Scene → State → ℕ → Value → State
with_global c s k v = with_world s (with_object s.world c.this (with_variable (object_at s.world c.this) (c.base + k) v))

-- What a `foreach` goes over is a copy in a new cell, which costs nothing. Of a mapping the pairs are copied that are
-- there.
abbrev pub copy_effect : Opened → Effect
copy_effect (Array c vs) = array vs
copy_effect (Mapping c ps) = mapping ps
copy_effect (Number n) = refused BadOperands
copy_effect (Chars cs) = refused BadOperands
copy_effect (Object o) = refused BadOperands

unfoldable pub copied : Value → State → End Value
copied v s = finished 0 (copy_effect (seen s v)) s

-- what a turn gives to one variable, or to two: an item, or an item and 0; a key, or a key and its value
abbrev pub item_row : Bool → Option Value → Option (List Value)
item_row is_pair None = None
item_row is_pair (Some v) = Some (if is_pair then v ∷ zero_value ∷ [] else v ∷ [])

abbrev pub pair_row : Bool → Option (Value × Value) → Option (List Value)
pair_row is_pair None = None
pair_row is_pair (Some p) = Some (if is_pair then p.0 ∷ p.1 ∷ [] else p.0 ∷ [])

-- The row at a place of the copy, if there is one. A pair counts also where its key has died since.
unfoldable pub row_at : Bool → Value → ℕ → State → Option (List Value)
row_at is_pair (Arr c) k s = item_row is_pair (slice_get (items_of (cells_of s) c) k)
row_at is_pair (Map c) k s = pair_row is_pair (slice_get (stored_pairs (cells_of s) c) k)
row_at is_pair (Int n) k s = None
row_at is_pair (Str cs) k s = None
row_at is_pair (Obj o) k s = None

-- Scans

abbrev pub scanned_value : Scanned → Value
scanned_value (scans.Int n) = Int n
scanned_value (scans.Text cs) = Str cs

abbrev pub scan_faults : Option ℕ → ℕ → ℕ → List Value → State → End (List Value)
scan_faults (Some at) wanted n vs s = fails (plain BadFormat) s
scan_faults None wanted n vs s = if nat_lt n wanted then fails (plain TooFewArgs) s else Gives vs s

abbrev pub scan_texts : Opened → Opened → ℕ → State → End (List Value)
scan_texts (Chars cs) (Chars form) n s = scan_faults (fault_of (parts form)) (count_of (parts form)) n (map scanned_value (scanned (parts form) cs)) s
scan_texts (Chars cs) _ n s = fails (bad_arg 2 (codes "sscanf")) s
scan_texts _ form n s = fails (bad_arg 1 (codes "sscanf")) s

-- The values that a scan of a text by a form assigns, in order, where there are n places. It costs 1 and the share of
-- both lengths; both must be texts, then the form is looked at, then whether there are enough places.
unfoldable pub scan : ℕ → Value → Value → State → End (List Value)
scan n x form s = pay (1 + share (size_of (seen s x) + size_of (seen s form))) s (scan_texts (seen s x) (seen s form) n)

-- Labels of a `switch`

-- the integers from a first to a last one
abbrev pub is_between : ℤ → ℤ → Value → Bool
is_between a b (Int n) = int_le a n && int_le n b
is_between a b _ = false

abbrev pub is_text : List ℕ → Value → Bool
is_text t (Str cs) = pointwise nat_eq cs t
is_text t _ = false

-- a value as a label sees it
unfoldable pub labelled : State → Value → Value
labelled s v = as_read (living s) v
