-- Filling a text up to a width.
use Rattle.std.specs.Prelude.{ℕ, ◌-◌, List, ◌++◌, Bool, true, false, not, ◌&&◌, Option, Some, None, length, take, drop, replicate, if◌then◌else◌}
use Rattle.lp_format.specs.declared.form.Conversion.{Conversion}
use Rattle.lp_format.specs.declared.form.Conversion.TheVariants.{Text, Decimal, Based, CodePoint, Any, Percent}
use Rattle.lp_format.specs.declared.form.Directive.{Directive}
use Rattle.lp_format.specs.Forms.{mark_len}

-- the conversions that write a number
abbrev pub is_number : Conversion → Bool
is_number Text = false
is_number Decimal = true
is_number (Based base) = true
is_number CodePoint = false
is_number Any = false
is_number Percent = false

-- a `0` counts for numbers alone, and not beside a `-`
abbrev pub has_zeros : Directive → Bool
has_zeros d = d.zeros && not d.left && is_number d.conversion

-- zeros or spaces
abbrev pub filler : Directive → ℕ
filler d = if has_zeros d then 48 else 32

-- where the fill goes: zeros behind the sign of a number, spaces in front, or with a `-` behind
abbrev pub fill_place : Directive → List ℕ → ℕ
fill_place d t = if has_zeros d then mark_len 45 t else if d.left then length t else 0

-- how many code points are missing
abbrev pub missing : Option ℕ → List ℕ → ℕ
missing None t = 0
missing (Some width) t = width - length t

-- n code points put in at a place
abbrev pub put_in : ℕ → ℕ → ℕ → List ℕ → List ℕ
put_in place n c t = take place t ++ replicate n c ++ drop place t

-- a text filled up to its width
abbrev pub filled : Directive → Option ℕ → List ℕ → List ℕ
filled d width t = put_in (fill_place d t) (missing width t) (filler d) t
