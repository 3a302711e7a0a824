-- The operators, each a function of its opened operands.
use Rattle.std.specs.Prelude.{Bool, true, false, ℕ, ℤ, pos, negsuc, ◌+ℤ◌, ◌-ℤ◌, ◌*ℤ◌, neg_ℤ, ◌++◌, List, Option, Some, None, filter, not, is_some, length, slice_get, take, drop, unwrap_or, int_lt, int_le}
use Rattle.std.specs.Cmp.Lexicographic.{slice_cmp}
use Rattle.std.specs.Fmt.{signed_decimal}
use Rattle.std.specs.Int.{w64, int_bit_and, int_bit_or, int_bit_xor, int_bit_not}
use Rattle.std.specs.List.{list_any}
use Rattle.std.specs.Map.{lookup}
use Rattle.std.specs.Ordering.{is_lt, is_le, nat_cmp}
use Rattle.lp_tree.specs.declared.operator.BinOp.{BinOp}
use Rattle.lp_tree.specs.declared.operator.BinOp.TheVariants.{Add, Sub, Mul, Div, Rem, And, Or, Xor, Shl, Shr, Lt, Le, Gt, Ge, Eq, Ne}
use Rattle.lp_tree.specs.declared.operator.UnOp.{UnOp}
use Rattle.lp_tree.specs.declared.operator.UnOp.TheVariants.{Not, Flip, Neg}
use Rattle.lp_values.specs.Read.{same, value_eq}
use Rattle.lp_values.specs.declared.error.ErrorKind.TheVariants.{BadOperands, BadIndex}
use Rattle.lp_values.specs.declared.id.ObjId.{ObjId}
use Rattle.lp_values.specs.declared.value.Value.{Value}
use Rattle.lp_values.specs.declared.value.Value.TheVariants.{Int, Str}
use Rattle.lp_cells.specs.Mapping.{pairs_of}
use Rattle.lp_cells.specs.declared.content.Content.TheVariants as content
use Rattle.lp_ops.specs.declared.effect.Effect.{Effect}
use Rattle.lp_ops.specs.declared.effect.Effect.TheVariants.{Gives, Makes}
use Rattle.lp_ops.specs.declared.end.End.{End}
use Rattle.lp_ops.specs.declared.end.End.TheVariants.{Start, Back, Open}
use Rattle.lp_ops.specs.Effects.{refused, within}
use Rattle.lp_ops.specs.Integers.{divided, int, remainder, shifted_left, shifted_right, truth, whole}
use Rattle.lp_ops.specs.Operands.{Opened, Number, Chars, Array, Mapping, value_of}

-- a text, an array, a mapping
abbrev pub text : List ℕ → Effect
text cs = Gives (Str cs)

abbrev pub array : List Value → Effect
array vs = Makes (content.Array vs)

abbrev pub mapping : List (Value × Value) → Effect
mapping ps = Makes (content.Mapping ps)

-- the items of the first that equal none of the second, and those that equal one
abbrev pub items_without : (ObjId → Bool) → List Value → List Value → List Value
items_without live xs ys = filter (λ x. not (list_any (same live x) ys)) xs

abbrev pub items_common : (ObjId → Bool) → List Value → List Value → List Value
items_common live xs ys = filter (λ x. list_any (same live x) ys) xs

-- the pairs of the first whose key is not in the second
abbrev pub pairs_without : (ObjId → Bool) → List (Value × Value) → List (Value × Value) → List (Value × Value)
pairs_without live ps qs = filter (λ p. not (is_some (lookup (same live p.0) qs))) ps

-- `+`: sums; texts, and numbers as decimal text, one after the other; arrays likewise; mappings, the right one winning
abbrev pub added : Opened → Opened → Effect
added (Number m) (Number n) = whole (m +ℤ n)
added (Chars s) (Chars t) = text (s ++ t)
added (Chars s) (Number n) = text (s ++ signed_decimal n)
added (Number m) (Chars t) = text (signed_decimal m ++ t)
added (Array c xs) (Array d ys) = array (xs ++ ys)
added (Mapping c ps) (Mapping d qs) = mapping (pairs_of (ps ++ qs))
added _ _ = refused BadOperands

-- `-`: differences; items of the left that equal none on the right; pairs of the left whose key is not on the right
abbrev pub subtracted : (ObjId → Bool) → Opened → Opened → Effect
subtracted live (Number m) (Number n) = whole (m -ℤ n)
subtracted live (Array c xs) (Array d ys) = array (items_without live xs ys)
subtracted live (Mapping c ps) (Mapping d qs) = mapping (pairs_of (pairs_without live ps qs))
subtracted live _ _ = refused BadOperands

-- `&`: bits that both have; items of the left that equal one on the right
abbrev pub anded : (ObjId → Bool) → Opened → Opened → Effect
anded live (Number m) (Number n) = int (int_bit_and w64 m n)
anded live (Array c xs) (Array d ys) = array (items_common live xs ys)
anded live _ _ = refused BadOperands

-- the operators that take integers alone
abbrev pub on_integers : (ℤ → ℤ → Effect) → Opened → Opened → Effect
on_integers f (Number m) (Number n) = f m n
on_integers f _ _ = refused BadOperands

-- a comparison: of two integers, or of two texts by code points
abbrev pub compared : (ℤ → ℤ → Bool) → (List ℕ → List ℕ → Bool) → Opened → Opened → Effect
compared f g (Number m) (Number n) = truth (f m n)
compared f g (Chars s) (Chars t) = truth (g s t)
compared f g _ _ = refused BadOperands

-- whether one text stands before another, or not after it
abbrev pub text_lt : List ℕ → List ℕ → Bool
text_lt s t = is_lt (slice_cmp nat_cmp s t)

abbrev pub text_le : List ℕ → List ℕ → Bool
text_le s t = is_le (slice_cmp nat_cmp s t)

-- whether both are one value: texts by their code points, arrays and mappings by identity
abbrev pub equal : Opened → Opened → Bool
equal a b = value_eq (value_of a) (value_of b)

-- each binary operator, before the limits of length
abbrev pub result_of : (ObjId → Bool) → BinOp → Opened → Opened → Effect
result_of live Add a b = added a b
result_of live Sub a b = subtracted live a b
result_of live Mul a b = on_integers (λ m n. whole (m *ℤ n)) a b
result_of live Div a b = on_integers divided a b
result_of live Rem a b = on_integers remainder a b
result_of live And a b = anded live a b
result_of live Or a b = on_integers (λ m n. int (int_bit_or w64 m n)) a b
result_of live Xor a b = on_integers (λ m n. int (int_bit_xor w64 m n)) a b
result_of live Shl a b = on_integers shifted_left a b
result_of live Shr a b = on_integers shifted_right a b
result_of live Lt a b = compared int_lt text_lt a b
result_of live Le a b = compared int_le text_le a b
result_of live Gt a b = compared (λ m n. int_lt n m) (λ s t. text_lt t s) a b
result_of live Ge a b = compared (λ m n. int_le n m) (λ s t. text_le t s) a b
result_of live Eq a b = truth (equal a b)
result_of live Ne a b = truth (not (equal a b))

-- and with them
abbrev pub binary : (ObjId → Bool) → BinOp → Opened → Opened → Effect
binary live op a b = within (result_of live op a b)

-- prefix operators: `!` is 1 for 0 and else 0; `~` flips each bit; `-` negates
abbrev pub unary : UnOp → Opened → Effect
unary Not a = truth (value_eq (value_of a) (Int (pos 0)))
unary Flip (Number n) = int (int_bit_not w64 n)
unary Flip _ = refused BadOperands
unary Neg (Number n) = whole (neg_ℤ n)
unary Neg _ = refused BadOperands

-- the place that an index means: from the end, the length less the number
abbrev pub place_of : Bool → ℤ → ℕ → ℤ
place_of false n len = n
place_of true n len = pos len -ℤ n

-- the item at a place
abbrev pub at_place : {X : Type 0} → List X → ℤ → Option X
at_place xs (pos i) = slice_get xs i
at_place xs (negsuc i) = None

-- an index not from 0 to below the length is an error
abbrev pub or_bad_index : Option Value → Effect
or_bad_index (Some v) = Gives v
or_bad_index None = refused BadIndex

-- a code point as a value
abbrev pub as_point : Option ℕ → Option Value
as_point (Some c) = Some (Int (pos c))
as_point None = None

-- a mapping's value at a key, or 0
abbrev pub value_or_zero : (ObjId → Bool) → List (Value × Value) → Value → Value
value_or_zero live ps k = unwrap_or (lookup (same live k) ps) (Int (pos 0))

-- `x[i]` and `x[<i]`: an item, a code point, or a mapping's value, 0 where the key is missing
abbrev pub index : (ObjId → Bool) → Bool → Opened → Opened → Effect
index live back (Array c xs) (Number n) = or_bad_index (at_place xs (place_of back n (length xs)))
index live back (Chars s) (Number n) = or_bad_index (as_point (at_place s (place_of back n (length s))))
index live false (Mapping c ps) k = Gives (value_or_zero live ps (value_of k))
index live _ _ _ = refused BadOperands

-- the first and the last place that a range means
abbrev pub first_place : End → ℕ → ℤ
first_place (Start n) len = n
first_place (Back n) len = pos len -ℤ n
first_place Open len = pos 0

abbrev pub last_place : End → ℕ → ℤ
last_place (Start n) len = n
last_place (Back n) len = pos len -ℤ n
last_place Open len = pos len -ℤ pos 1

-- a number from 0 up
abbrev pub from_zero : ℤ → ℕ
from_zero (pos n) = n
from_zero (negsuc n) = 0

-- the items whose place is at least a and at most b
abbrev pub between : {X : Type 0} → ℤ → ℤ → List X → List X
between a b xs = drop (from_zero a) (take (from_zero (b +ℤ pos 1)) xs)

-- `x[a..b]`: a part of an array or a text, before the limits of length
abbrev pub part_of : Opened → End → End → Effect
part_of (Array c xs) a b = array (between (first_place a (length xs)) (last_place b (length xs)) xs)
part_of (Chars s) a b = text (between (first_place a (length s)) (last_place b (length s)) s)
part_of _ a b = refused BadOperands

-- and with them
abbrev pub range : Opened → End → End → Effect
range x a b = within (part_of x a b)
