-- Efuns that compute: texts, arrays, mappings, numbers and kinds of values. Each is a function of its arguments as read.
use Rattle.std.specs.Prelude.{ℕ, ℤ, pos, negsuc, neg_ℤ, nat_abs, int_le, List, [], ◌∷◌, length, take, drop, map, replicate, filter_map, position, Bool, true, false, Option, Some, None, is_some, slice_index, nat_eq, ◌||◌, codes, Result, Ok, Err, if◌then◌else◌}
use Rattle.std.specs.Fmt.{signed_decimal}
use Rattle.std.specs.Char.{is_ascii_digit, to_ascii_lowercase, to_ascii_uppercase}
use Rattle.std.specs.List.{prefix_len}
use Rattle.std.specs.Map.{lookup}
use Rattle.std.specs.Ordering.{int_eq}
use Rattle.lp_values.specs.declared.id.ObjId.{ObjId}
use Rattle.lp_values.specs.declared.value.Value.{Value}
use Rattle.lp_values.specs.declared.value.Value.TheVariants as values
use Rattle.lp_values.specs.declared.error.ErrorKind.TheVariants as errors
use Rattle.lp_values.specs.Read.{as_read, same}
use Rattle.lp_cells.specs.Mapping.{pairs_of}
use Rattle.lp_text.specs.Pieces.{exploded, imploded}
use Rattle.lp_text.specs.Scans.{digits_number}
use Rattle.lp_text.specs.Texts.{place, trimmed}
use Rattle.lp_format.specs.declared.fault.FormatFault.{FormatFault}
use Rattle.lp_format.specs.declared.fault.FormatFault.TheVariants as format_faults
use Rattle.lp_format.specs.Forms.{pieces}
use Rattle.lp_format.specs.Formatted.{formatted}
use Rattle.lp_format.specs.Spelled.{spelled}
use Rattle.lp_ops.specs.declared.effect.Effect.{Effect}
use Rattle.lp_ops.specs.declared.effect.Effect.TheVariants.{Gives}
use Rattle.lp_ops.specs.Effects.{refused, within}
use Rattle.lp_ops.specs.Integers.{int, truth, whole}
use Rattle.lp_ops.specs.Operands.{Opened, Number, Chars, Array, Mapping, Object, value_of, size_of}
use Rattle.lp_ops.specs.Operators.{text, array, mapping}
use Rattle.lp_instr.specs.declared.efun.Efun.{Efun}
use Rattle.lp_instr.specs.declared.efun.Efun.TheVariants.{Clonep, Objectp, Intp, Stringp, Pointerp, Mappingp, Strlen, Explode, Implode, LowerCase, UpperCase, Capitalize, Strstr, Trim, Sprintf, ToInt, ToString, Sizeof, Allocate, Member, Copy, MIndices, MValues, Mkmapping, Min, Max, Abs}
use Rattle.lp_language.specs.World.{World, object_at}
use Rattle.lp_language.specs.Course.{State, zero_value}
use Rattle.lp_language.specs.Operations.{living, cells_of}
use Rattle.lp_meaning.specs.WorldSteps.{is_clone_name}
use Rattle.lp_meaning.specs.EfunArguments.{arg, int_arg, text_arg, items_arg, pairs_arg, bad}

-- Kinds of values: 1 or 0
abbrev pub is_clone : World → Opened → Bool
is_clone w (Object o) = is_clone_name (object_at w o).name
is_clone w _ = false

-- whether a value is a live object
abbrev pub is_object_value : Opened → Bool
is_object_value (Object o) = true
is_object_value _ = false

-- an integer
abbrev pub is_int_value : Opened → Bool
is_int_value (Number n) = true
is_int_value _ = false

-- a text
abbrev pub is_text_value : Opened → Bool
is_text_value (Chars s) = true
is_text_value _ = false

-- an array
abbrev pub is_array_value : Opened → Bool
is_array_value (Array c vs) = true
is_array_value _ = false

-- a mapping
abbrev pub is_mapping_value : Opened → Bool
is_mapping_value (Mapping c ps) = true
is_mapping_value _ = false

-- What is written of a value: a text as it is, an integer in decimal, an object's name; arrays and mappings are not shown.
abbrev pub written : World → Opened → List ℕ
written w (Number n) = signed_decimal n
written w (Chars s) = s
written w (Array c vs) = codes "<ARRAY>"
written w (Mapping c ps) = codes "<MAPPING>"
written w (Object o) = (object_at w o).name

-- the texts among values
abbrev pub text_among : Value → Option (List ℕ)
text_among (values.Str t) = Some t
text_among (values.Int n) = None
text_among (values.Arr c) = None
text_among (values.Map c) = None
text_among (values.Obj o) = None

-- the first letter in capitals
abbrev pub capitalized : List ℕ → List ℕ
capitalized [] = []
capitalized (c ∷ cs) = to_ascii_uppercase c ∷ cs

-- a place, or -1
abbrev pub place_or_none : Option ℕ → Effect
place_or_none (Some i) = int (pos i)
place_or_none None = int (negsuc 0)

-- a number from 0 up
abbrev pub from_zero : ℤ → ℕ
from_zero (pos n) = n
from_zero (negsuc n) = 0

-- the integer that a text begins with: a sign, if any, and digits; without digits 0
abbrev pub sign_len : List ℕ → ℕ
sign_len cs = if nat_eq (slice_index cs 0) 45 || nat_eq (slice_index cs 0) 43 then 1 else 0

-- the digits that a text begins with
abbrev pub leading_digits : List ℕ → List ℕ
leading_digits cs = take (prefix_len is_ascii_digit cs) cs

-- the number behind the sign
abbrev pub leading_number : List ℕ → ℕ
leading_number cs = digits_number (leading_digits (drop (sign_len cs) cs))

-- and with it
abbrev pub leading_int : List ℕ → ℤ
leading_int cs = if nat_eq (slice_index cs 0) 45 then neg_ℤ (pos (leading_number cs)) else pos (leading_number cs)

-- an integer itself, the integer that a text begins with, and 0 of another value
abbrev pub to_int : Opened → Effect
to_int (Number n) = int n
to_int (Chars cs) = whole (leading_int cs)
to_int _ = int (pos 0)

-- the length of a text, an array or a mapping; of 0 it is 0
abbrev pub sizeof : Opened → Effect
sizeof (Number n) = if int_eq n (pos 0) then int (pos 0) else bad Sizeof 1
sizeof (Object o) = bad Sizeof 1
sizeof x = int (pos (size_of x))

-- an array of zeros
abbrev pub allocate : ℤ → Effect
allocate (pos n) = array (replicate n zero_value)
allocate (negsuc n) = bad Allocate 1

-- the place of a code point
abbrev pub place_of_point : List ℕ → Opened → Option ℕ
place_of_point cs (Number (pos c)) = position (nat_eq c) cs
place_of_point cs _ = None

-- whether a mapping has a key: 1 or 0; the place of the first equal item of an array, or of a code point of a text, or -1
abbrev pub member : (ObjId → Bool) → Opened → Opened → Effect
member live (Array c vs) x = place_or_none (position (λ v. same live v (value_of x)) vs)
member live (Mapping c ps) x = truth (is_some (lookup (same live (value_of x)) ps))
member live (Chars cs) x = place_or_none (place_of_point cs x)
member live _ x = int (negsuc 0)

-- a new array or mapping with the same items, or the value itself
abbrev pub copied : Opened → Effect
copied (Array c vs) = array vs
copied (Mapping c ps) = mapping ps
copied x = Gives (value_of x)

-- keys with values, up to the shorter one; keys are read, and a later equal key wins at the first one's place
abbrev pub paired : (ObjId → Bool) → List Value → List Value → List (Value × Value)
paired live [] vs = []
paired live (k ∷ ks) [] = []
paired live (k ∷ ks) (v ∷ vs) = (as_read live k, v) ∷ paired live ks vs

-- Formatting: the name of an object is that which it has, and each fault is an error.
abbrev pub name_in : World → ObjId → Option (List ℕ)
name_in w o = Some (object_at w o).name

-- the error of a fault; a bad argument counts the form as the first
abbrev pub format_error : Efun → FormatFault → Effect
format_error e (format_faults.BadFormat at) = refused errors.BadFormat
format_error e format_faults.TooFewArgs = refused errors.TooFewArgs
format_error e (format_faults.BadArg n) = bad e n
format_error e format_faults.TooLong = refused errors.TextTooLong
format_error e format_faults.NoMemory = refused errors.TextTooLong

-- a formatted text, or the error
abbrev pub as_text : Efun → Result (List ℕ) FormatFault → Effect
as_text e (Ok t) = text t
as_text e (Err f) = format_error e f

-- a form with its arguments
abbrev pub format : Efun → State → List ℕ → List Value → Effect
format e s form vs = as_text e (formatted (living s) (spelled (living s) (name_in s.world) (cells_of s)) vs (pieces form))

-- what an efun of this group gives, before the limits of length
abbrev pub computed : Efun → State → List Value → List Opened → Effect
computed Clonep s vs xs = truth (is_clone s.world (arg xs 0))
computed Objectp s vs xs = truth (is_object_value (arg xs 0))
computed Intp s vs xs = truth (is_int_value (arg xs 0))
computed Stringp s vs xs = truth (is_text_value (arg xs 0))
computed Pointerp s vs xs = truth (is_array_value (arg xs 0))
computed Mappingp s vs xs = truth (is_mapping_value (arg xs 0))
computed Strlen s vs xs = int (pos (length (text_arg xs 0)))
computed Explode s vs xs = array (map values.Str (exploded (text_arg xs 1) (text_arg xs 0)))
computed Implode s vs xs = text (imploded (text_arg xs 1) (filter_map text_among (items_arg xs 0)))
computed LowerCase s vs xs = text (map to_ascii_lowercase (text_arg xs 0))
computed UpperCase s vs xs = text (map to_ascii_uppercase (text_arg xs 0))
computed Capitalize s vs xs = text (capitalized (text_arg xs 0))
computed Strstr s vs xs = place_or_none (place (text_arg xs 1) (text_arg xs 0) (from_zero (int_arg xs 2)))
computed Trim s vs xs = text (trimmed (text_arg xs 0))
computed Sprintf s vs xs = format Sprintf s (text_arg xs 0) (drop 1 vs)
computed ToInt s vs xs = to_int (arg xs 0)
computed ToString s vs xs = text (written s.world (arg xs 0))
computed Sizeof s vs xs = sizeof (arg xs 0)
computed Allocate s vs xs = allocate (int_arg xs 0)
computed Member s vs xs = member (living s) (arg xs 0) (arg xs 1)
computed Copy s vs xs = copied (arg xs 0)
computed MIndices s vs xs = array (map (λ p. p.0) (pairs_arg xs 0))
computed MValues s vs xs = array (map (λ p. p.1) (pairs_arg xs 0))
computed Mkmapping s vs xs = mapping (pairs_of (paired (living s) (items_arg xs 0) (items_arg xs 1)))
computed Min s vs xs = int (if int_le (int_arg xs 0) (int_arg xs 1) then int_arg xs 0 else int_arg xs 1)
computed Max s vs xs = int (if int_le (int_arg xs 0) (int_arg xs 1) then int_arg xs 1 else int_arg xs 0)
computed Abs s vs xs = whole (pos (nat_abs (int_arg xs 0)))
computed _ s vs xs = int (pos 0)

-- and with them
unfoldable pub computes : Efun → State → List Value → List Opened → Effect
computes e s vs xs = within (computed e s vs xs)
