-- Efuns: whether arguments are of their kinds, and what calls cost.
use Rattle.std.specs.Prelude.{ℕ, ℤ, pos, suc, ◌+◌, List, [], ◌∷◌, map, Bool, true, false, Option, Some, None, unwrap_or, slice_get, if◌then◌else◌}
use Rattle.lp_values.specs.declared.id.ObjId.{ObjId}
use Rattle.lp_values.specs.declared.value.Value.{Value}
use Rattle.lp_ops.specs.declared.effect.Effect.{Effect}
use Rattle.lp_ops.specs.declared.effect.Effect.TheVariants.{Fault}
use Rattle.lp_ops.specs.Operands.{Opened, Number, Chars, Array, Mapping, Object}
use Rattle.lp_ops.specs.Prices.{share}
use Rattle.lp_values.specs.Errors.{bad_arg}
use Rattle.lp_instr.specs.declared.efun.Efun.{Efun}
use Rattle.lp_instr.specs.declared.efun.Efun.TheVariants.{AllInventory, Write, TellObject, TellRoom, Say, Printf, Users, Explode, Implode, LowerCase, UpperCase, Capitalize, Strstr, Trim, Sprintf, Sscanf, ToString, Allocate, Member, Copy, Filter, Map, MIndices, MValues, Mkmapping, ReadFile, WriteFile, SaveObject, RestoreObject}
use Rattle.lp_instr.specs.EfunKinds.{Kind, AnInt, AText, AnObject, AnArray, AMapping, Anything, TextOrObject, CellOrText}
use Rattle.lp_instr.specs.EfunList.{efun_name}
use Rattle.lp_language.specs.Course.{State, zero_value}
use Rattle.lp_language.specs.Operations.{seen, total_size}

-- whether an argument, as read, is of a kind: a destructed object is an integer
abbrev pub fits : Kind → Opened → Bool
fits AnInt (Number n) = true
fits AText (Chars s) = true
fits AnObject (Object o) = true
fits AnArray (Array c vs) = true
fits AMapping (Mapping c ps) = true
fits Anything x = true
fits TextOrObject (Chars s) = true
fits TextOrObject (Object o) = true
fits CellOrText (Array c vs) = true
fits CellOrText (Mapping c ps) = true
fits CellOrText (Chars s) = true
fits _ _ = false

-- the number of the first argument that is of another kind
abbrev pub first_bad : ℕ → List Kind → List Opened → Option ℕ
first_bad n [] xs = None
first_bad n (k ∷ ks) [] = None
first_bad n (k ∷ ks) (x ∷ xs) = if fits k x then first_bad (suc n) ks xs else Some n

-- Each efun pays 1. Those that make or go over texts, arrays or mappings pay a share of the lengths besides.
abbrev pub has_share : Efun → Bool
has_share AllInventory = true
has_share Write = true
has_share TellObject = true
has_share TellRoom = true
has_share Say = true
has_share Printf = true
has_share Users = true
has_share Explode = true
has_share Implode = true
has_share LowerCase = true
has_share UpperCase = true
has_share Capitalize = true
has_share Strstr = true
has_share Trim = true
has_share Sprintf = true
has_share Sscanf = true
has_share ToString = true
has_share Allocate = true
has_share Member = true
has_share Copy = true
has_share Filter = true
has_share Map = true
has_share MIndices = true
has_share MValues = true
has_share Mkmapping = true
has_share ReadFile = true
has_share WriteFile = true
has_share SaveObject = true
has_share RestoreObject = true
has_share _ = false

-- before it acts: 1, and the share of all arguments together
abbrev pub price_before : Efun → List Value → State → ℕ
price_before e vs s = 1 + (if has_share e then share (total_size s vs) else 0)

-- and after it the share of its result
abbrev pub price_after : Efun → ℕ → ℕ
price_after e size = if has_share e then share size else 0

-- The arguments, once their kinds have been looked at. One that is missing or of another kind reads as 0 or as empty.
abbrev pub arg : List Opened → ℕ → Opened
arg xs n = unwrap_or (slice_get xs n) (Number (pos 0))

-- an integer
abbrev pub int_in : Opened → ℤ
int_in (Number n) = n
int_in _ = pos 0

-- a text
abbrev pub text_in : Opened → List ℕ
text_in (Chars s) = s
text_in _ = []

-- the items of an array
abbrev pub items_in : Opened → List Value
items_in (Array c vs) = vs
items_in _ = []

-- the pairs that are there in a mapping
abbrev pub pairs_in : Opened → List (Value × Value)
pairs_in (Mapping c ps) = ps
pairs_in _ = []

-- a live object
abbrev pub object_in : Opened → Option ObjId
object_in (Object o) = Some o
object_in _ = None

-- the argument with a number, counted from 0, as an integer
abbrev pub int_arg : List Opened → ℕ → ℤ
int_arg xs n = int_in (arg xs n)

-- as a text
abbrev pub text_arg : List Opened → ℕ → List ℕ
text_arg xs n = text_in (arg xs n)

-- as the items of an array
abbrev pub items_arg : List Opened → ℕ → List Value
items_arg xs n = items_in (arg xs n)

-- as the pairs of a mapping
abbrev pub pairs_arg : List Opened → ℕ → List (Value × Value)
pairs_arg xs n = pairs_in (arg xs n)

-- as an object
abbrev pub object_arg : List Opened → ℕ → Option ObjId
object_arg xs n = object_in (arg xs n)

-- as it was given
abbrev pub value_arg : List Value → ℕ → Value
value_arg vs n = unwrap_or (slice_get vs n) zero_value

-- `Bad argument N to NAME`
abbrev pub bad : Efun → ℕ → Effect
bad e n = Fault (bad_arg n (efun_name e))

-- the arguments as read
abbrev pub opened_args : State → List Value → List Opened
opened_args s vs = map (seen s) vs
