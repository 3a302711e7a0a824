-- What the conversions write of their arguments.
use Rattle.std.specs.Prelude.{ℕ, ℤ, pos, negsuc, ◌+◌, List, [], ◌∷◌, Bool, true, false, Option, Some, None, nat_lt, take, ◌&&◌, ◌||◌, if◌then◌else◌, Result, Ok, Err, slice_get}
use Rattle.std.specs.Fmt.{signed_decimal, digits}
use Rattle.lp_values.specs.Read.{as_read}
use Rattle.lp_values.specs.declared.id.ObjId.{ObjId}
use Rattle.lp_values.specs.declared.value.Value.{Value}
use Rattle.lp_values.specs.declared.value.Value.TheVariants.{Int, Str, Arr, Map, Obj}
use Rattle.lp_format.specs.declared.fault.FormatFault.{FormatFault}
use Rattle.lp_format.specs.declared.fault.FormatFault.TheVariants.{TooFewArgs, BadArg}
use Rattle.lp_format.specs.declared.form.Count.{Count}
use Rattle.lp_format.specs.declared.form.Count.TheVariants.{Absent, Given, Argument, Wrong}
use Rattle.lp_format.specs.declared.form.Conversion.{Conversion}
use Rattle.lp_format.specs.declared.form.Conversion.TheVariants.{Text, Decimal, Based, CodePoint, Any, Percent}
use Rattle.lp_format.specs.declared.form.Base.{Base}
use Rattle.lp_format.specs.declared.form.Base.TheVariants.{Octal, SmallHex, LargeHex}

-- the integer, the text that a value is
abbrev pub int_of : Value → Option ℤ
int_of (Int x) = Some x
int_of (Str s) = None
int_of (Arr c) = None
int_of (Map c) = None
int_of (Obj o) = None

abbrev pub text_of : Value → Option (List ℕ)
text_of (Int x) = None
text_of (Str s) = Some s
text_of (Arr c) = None
text_of (Map c) = None
text_of (Obj o) = None

-- the number of the argument at a place: the form is the first of all
abbrev pub number_at : ℕ → ℕ
number_at i = i + 2

-- an argument as a width or precision: an integer from 0 to 9999
abbrev pub measure_of : ℕ → Option ℤ → Result (Option ℕ) FormatFault
measure_of n None = Err (BadArg n)
measure_of n (Some (pos x)) = if nat_lt 9999 x then Err (BadArg n) else Ok (Some x)
measure_of n (Some (negsuc x)) = Err (BadArg n)

-- where it is there
abbrev pub argument_measure : (ObjId → Bool) → ℕ → Option Value → Result (Option ℕ) FormatFault
argument_measure live n None = Err TooFewArgs
argument_measure live n (Some v) = measure_of n (int_of (as_read live v))

-- a width or a precision, whose argument, if it is one, has the place i
abbrev pub measured : (ObjId → Bool) → List Value → ℕ → Count → Result (Option ℕ) FormatFault
measured live args i Absent = Ok None
measured live args i (Given n) = Ok (Some n)
measured live args i Argument = argument_measure live (number_at i) (slice_get args i)
measured live args i Wrong = Ok None

-- how many arguments it takes
abbrev pub count_uses : Count → ℕ
count_uses Absent = 0
count_uses (Given n) = 0
count_uses Argument = 1
count_uses Wrong = 0

-- the first code points, as many as a precision says
abbrev pub cut : Option ℕ → List ℕ → List ℕ
cut None s = s
cut (Some n) s = take n s

-- `%s`: a text
abbrev pub text_written : ℕ → Option ℕ → Option (List ℕ) → Result (List ℕ) FormatFault
text_written n precision None = Err (BadArg n)
text_written n precision (Some s) = Ok (cut precision s)

-- `%d`, `%i`: an integer
abbrev pub decimal_written : ℕ → Option ℤ → Result (List ℕ) FormatFault
decimal_written n None = Err (BadArg n)
decimal_written n (Some x) = Ok (signed_decimal x)

-- the digits of a number in another base
abbrev pub digits_in : Base → ℕ → List ℕ
digits_in Octal x = digits 8 false x
digits_in SmallHex x = digits 16 false x
digits_in LargeHex x = digits 16 true x

-- `%o`, `%x`, `%X`: an integer from 0 up, in another base
abbrev pub based_written : ℕ → Base → Option ℤ → Result (List ℕ) FormatFault
based_written n base None = Err (BadArg n)
based_written n base (Some (pos x)) = Ok (digits_in base x)
based_written n base (Some (negsuc x)) = Err (BadArg n)

-- a code point: up to 1114111, and none of the 2048 that stand for no character
abbrev pub is_code_point : ℕ → Bool
is_code_point x = nat_lt x 55296 || nat_lt 57343 x && nat_lt x 1114112

-- the code point with a number
abbrev pub code_point_of : Option ℤ → Option ℕ
code_point_of None = None
code_point_of (Some (pos x)) = if is_code_point x then Some x else None
code_point_of (Some (negsuc x)) = None

-- `%c`: a code point
abbrev pub code_point_written : ℕ → Option ℕ → Result (List ℕ) FormatFault
code_point_written n None = Err (BadArg n)
code_point_written n (Some c) = Ok (c ∷ [])

-- what a conversion writes of its argument, whose number is n
abbrev pub value_written : (ObjId → Bool) → (Value → List ℕ) → ℕ → Option ℕ → Conversion → Value → Result (List ℕ) FormatFault
value_written live spell n precision Text v = text_written n precision (text_of (as_read live v))
value_written live spell n precision Decimal v = decimal_written n (int_of (as_read live v))
value_written live spell n precision (Based base) v = based_written n base (int_of (as_read live v))
value_written live spell n precision CodePoint v = code_point_written n (code_point_of (int_of (as_read live v)))
value_written live spell n precision Any v = Ok (spell v)
value_written live spell n precision Percent v = Ok (37 ∷ [])

-- where the argument is there
abbrev pub argument_written : (ObjId → Bool) → (Value → List ℕ) → ℕ → Option ℕ → Conversion → Option Value → Result (List ℕ) FormatFault
argument_written live spell n precision c None = Err TooFewArgs
argument_written live spell n precision c (Some v) = value_written live spell n precision c v

-- `%%` takes no argument
abbrev pub is_percent : Conversion → Bool
is_percent Text = false
is_percent Decimal = false
is_percent (Based base) = false
is_percent CodePoint = false
is_percent Any = false
is_percent Percent = true

-- how many arguments a conversion takes
abbrev pub conversion_uses : Conversion → ℕ
conversion_uses c = if is_percent c then 0 else 1

-- what a conversion writes, whose argument, if it takes one, has the place i
abbrev pub written : (ObjId → Bool) → (Value → List ℕ) → List Value → ℕ → Option ℕ → Conversion → Result (List ℕ) FormatFault
written live spell args i precision c = if is_percent c then Ok (37 ∷ []) else argument_written live spell (number_at i) precision c (slice_get args i)
