-- Operators on integers of 64 bits.
use Rattle.std.specs.Prelude.{Bool, ℤ, pos, negsuc, ◌^◌, if◌then◌else◌, nat_lt, min, int_div, int_rem}
use Rattle.std.specs.Int.{w64, int_shl, int_shr}
use Rattle.std.specs.Ordering.{int_eq}
use Rattle.lp_values.specs.declared.error.ErrorKind.TheVariants.{BadOperands, Overflow, ZeroDivisor}
use Rattle.lp_values.specs.declared.value.Value.TheVariants.{Int}
use Rattle.lp_ops.specs.declared.effect.Effect.{Effect}
use Rattle.lp_ops.specs.declared.effect.Effect.TheVariants.{Gives}
use Rattle.lp_ops.specs.Effects.{refused}

-- an integer
abbrev pub int : ℤ → Effect
int n = Gives (Int n)

-- 1 for true, 0 for false
abbrev pub truth : Bool → Effect
truth b = int (if b then pos 1 else pos 0)

-- whether 64 bits hold the number
abbrev pub fits : ℤ → Bool
fits (pos n) = nat_lt n (2 ^ 63)
fits (negsuc n) = nat_lt n (2 ^ 63)

-- an integer, or an overflow out of 64 bits
abbrev pub whole : ℤ → Effect
whole n = if fits n then int n else refused Overflow

-- division towards 0, and by 0 an error
abbrev pub divided : ℤ → ℤ → Effect
divided m n = if int_eq n (pos 0) then refused ZeroDivisor else whole (int_div m n)

-- the remainder of it, with the sign of the left
abbrev pub remainder : ℤ → ℤ → Effect
remainder m n = if int_eq n (pos 0) then refused ZeroDivisor else int (int_rem m n)

-- shifts take a number from 0 up; bits past the end are lost, so that 64 and more give 0
abbrev pub shifted_left : ℤ → ℤ → Effect
shifted_left m (pos k) = int (if nat_lt k 64 then int_shl w64 m k else pos 0)
shifted_left m (negsuc k) = refused BadOperands

-- to the right the sign stays, so that 64 and more give 0, or -1 for a negative
abbrev pub shifted_right : ℤ → ℤ → Effect
shifted_right m (pos k) = int (int_shr m (min k 63))
shifted_right m (negsuc k) = refused BadOperands
