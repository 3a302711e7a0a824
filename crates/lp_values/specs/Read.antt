-- What a value reads as, and when two values are equal.
use Rattle.std.specs.Prelude.{Bool, false, pos, nat_eq, if◌then◌else◌, Option, Some, None, unwrap_or}
use Rattle.std.specs.Ordering.{int_eq}
use Rattle.std.specs.Cmp.Lexicographic.{pointwise}
use Rattle.lp_values.specs.declared.id.ObjId.{ObjId}
use Rattle.lp_values.specs.declared.value.Value.{Value}
use Rattle.lp_values.specs.declared.value.Value.TheVariants.{Int, Str, Arr, Map, Obj}

-- as read: the value, or none for a reference to a destructed object
abbrev pub live_part : (ObjId → Bool) → Value → Option Value
live_part live (Int n) = Some (Int n)
live_part live (Str s) = Some (Str s)
live_part live (Arr c) = Some (Arr c)
live_part live (Map c) = Some (Map c)
live_part live (Obj o) = if live o then Some (Obj o) else None

-- as read: a reference to a destructed object is 0
abbrev pub as_read : (ObjId → Bool) → Value → Value
as_read live v = unwrap_or (live_part live v) (Int (pos 0))

-- whether two values are one: texts by their code points, arrays and mappings by identity
abbrev pub value_eq : Value → Value → Bool
value_eq (Int m) (Int n) = int_eq m n
value_eq (Str s) (Str t) = pointwise nat_eq s t
value_eq (Arr c) (Arr d) = nat_eq c.0 d.0
value_eq (Map c) (Map d) = nat_eq c.0 d.0
value_eq (Obj o) (Obj p) = nat_eq o.0 p.0
value_eq _ _ = false

-- equality as read: whether both read as one value
abbrev pub same : (ObjId → Bool) → Value → Value → Bool
same live a b = value_eq (as_read live a) (as_read live b)

-- truth: whether the value reads as the integer 0, which alone is false
abbrev pub is_zero : (ObjId → Bool) → Value → Bool
is_zero live v = value_eq (as_read live v) (Int (pos 0))
