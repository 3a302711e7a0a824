-- Types, and which of them fit.
use Rattle.std.specs.Prelude.{ℕ, zero, suc, List, Bool, true, false, ◌||◌, ◌&&◌, nat_eq, Option, Some, None}
use Rattle.std.specs.List.{list_any}
use Rattle.lp_tree.specs.declared.keyword.Base.{Base}
use Rattle.lp_tree.specs.declared.keyword.Base.TheVariants.{Int, Status, String, Object, Mapping, Mixed, Void}
use Rattle.lp_tree.specs.declared.keyword.Modifier.{Modifier}
use Rattle.lp_tree.specs.declared.keyword.Modifier.TheVariants.{Varargs}
use Rattle.lp_tree.specs.declared.types.TypeName.{TypeName}
pub use Rattle.lp_types_expr.specs.declared.kind.ExprType.{ExprType}
pub use Rattle.lp_types_expr.specs.declared.kind.ExprType.TheVariants.{Zero, Typed}

-- the bases in their order, from 0
abbrev pub base_number : Base → ℕ
base_number Int = 0
base_number Status = 1
base_number String = 2
base_number Object = 3
base_number Mapping = 4
base_number Mixed = 5
base_number Void = 6

-- `status` is `int`
abbrev pub plain : Base → Base
plain Status = Int
plain b = b

abbrev pub is_same_base : Base → Base → Bool
is_same_base a b = nat_eq (base_number (plain a)) (base_number (plain b))

abbrev pub is_mixed_base : Base → Bool
is_mixed_base b = is_same_base b Mixed

-- Two types fit where they are equal, or either is `mixed`, or both are array types whose item types fit.
abbrev pub bases_fit : Base → ℕ → Base → ℕ → Bool
bases_fit a zero b zero = is_same_base a b || is_mixed_base a || is_mixed_base b
bases_fit a zero b (suc n) = is_mixed_base a
bases_fit a (suc m) b zero = is_mixed_base b
bases_fit a (suc m) b (suc n) = bases_fit a m b n

abbrev pub types_fit : TypeName → TypeName → Bool
types_fit a b = bases_fit a.base a.stars b.base b.stars

abbrev pub plain_type : Base → TypeName
plain_type b = record { base = b; stars = 0 }

-- a missing type is `mixed`
abbrev pub kind_of : Option TypeName → TypeName
kind_of None = plain_type Mixed
kind_of (Some ty) = ty

-- `void` itself, and no array of it
abbrev pub is_void : TypeName → Bool
is_void ty = nat_eq ty.stars 0 && is_same_base ty.base Void

-- the literal 0 fits every type
abbrev pub fits : TypeName → ExprType → Bool
fits ty Zero = true
fits ty (Typed other) = types_fit ty other

abbrev pub fit : ExprType → ExprType → Bool
fit Zero b = true
fit (Typed ty) b = fits ty b

-- Modifiers

abbrev pub is_varargs_word : Modifier → Bool
is_varargs_word Varargs = true
is_varargs_word _ = false

abbrev pub is_varargs : List Modifier → Bool
is_varargs ms = list_any is_varargs_word ms
