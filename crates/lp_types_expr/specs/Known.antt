-- What the names of a unit mean when it is compiled: variables, functions, efuns; and the types of expressions.
use Rattle.std.specs.Prelude.{codes, ℕ, zero, ℤ, pos, ◌-◌, drop, length, List, [], ◌∷◌, ◌++◌, filter, Bool, true, false, ◌||◌, ◌&&◌, not, nat_le, nat_lt, Option, Some, None, if◌then◌else◌}
use Rattle.std.specs.List.{list_any}
use Rattle.lp_tree.specs.declared.keyword.Base.TheVariants as bases
use Rattle.lp_tree.specs.declared.pragma.TypeMode.{TypeMode}
use Rattle.lp_tree.specs.declared.pragma.TypeMode.TheVariants.{Weak, Strong, Strict}
use Rattle.lp_tree.specs.declared.operator.BinOp.{BinOp}
use Rattle.lp_tree.specs.declared.operator.BinOp.TheVariants as ops
use Rattle.lp_tree.specs.declared.types.TypeName.{TypeName}
use Rattle.lp_tree.specs.Trees.{Tree, Int, Text, Name, Paren, Array, Mapping, Call, EfunCall, ParentCall, NamedParentCall, Unary, Cast, Binary}
use Rattle.lp_tree.specs.Units.{ItemTree}
use Rattle.lp_code.specs.declared.tables.Tables.{Tables}
use Rattle.lp_instr.specs.declared.efun.Efun.{Efun}
use Rattle.lp_instr.specs.declared.efun.Efun.TheVariants as efuns
use Rattle.lp_instr.specs.declared.efuns.Arity.{Arity}
use Rattle.lp_instr.specs.EfunList.{is_name, efun_named, arity}
pub use Rattle.lp_types_expr.specs.declared.local.Local.{Local}
use Rattle.lp_types_expr.specs.Kinds.{ExprType, Zero, Typed, plain_type}
use Rattle.lp_types_expr.specs.Signatures.{Signature, or_else, own_kind, inherited_kind, of_parents}
use Rattle.lp_types_expr.specs.Signatures as signatures

-- What is round an expression: the mode, what the file declares, the tables of its parents in the order of the inherits,
-- and the names of the simul efuns.
pub record Around : Type 0 where
  pub mode : TypeMode
  pub items : List ItemTree
  pub parents : List Tables
  pub simuls : List (List ℕ)

abbrev pub is_strong : TypeMode → Bool
is_strong Weak = false
is_strong Strong = true
is_strong Strict = true

abbrev pub is_strict : TypeMode → Bool
is_strict Strict = true
is_strict _ = false

-- Variables

-- a later one hides an earlier one
abbrev pub local_kind : List Local → List ℕ → Option TypeName
local_kind [] w = None
local_kind (l ∷ ls) w = or_else (local_kind ls w) (if is_name w l.name then Some l.kind else None)

-- a local hides a global, which is the file's own or else one of the last parent that has it
abbrev pub variable_kind : Around → List Local → List ℕ → Option TypeName
variable_kind a ls w = or_else (local_kind ls w) (or_else (own_kind a.items w) (inherited_kind a.parents w))

-- Functions

abbrev pub known_function : Around → List ℕ → Option Signature
known_function a w = signatures.known_function a.items a.parents w

-- whom a call calls; `TwoParents` have the path that the call names
pub data Callee : Type 0 where
  AFunction : Signature → Callee
  ASimul : Callee
  AnEfun : Efun → Callee
  TwoParents : Callee
  Nobody : Callee

abbrev pub as_function : Option Signature → Callee → Callee
as_function None other = other
as_function (Some sig) other = AFunction sig

abbrev pub as_efun : Option Efun → Callee
as_efun None = Nobody
as_efun (Some e) = AnEfun e

-- `name(..)`: a function of the file or its parents, else a simul efun, else an efun
abbrev pub plain_callee : Around → List ℕ → Callee
plain_callee a w = as_function (known_function a w) (if list_any (is_name w) a.simuls then ASimul else as_efun (efun_named w))

-- whether a text ends in another
abbrev pub ends_in : List ℕ → List ℕ → Bool
ends_in cs end = not (nat_lt (length cs) (length end)) && is_name (drop (length cs - length end) cs) end

-- `"p"::`: the parents whose path, which is without `.c`, is p, or ends in `/p`
abbrev pub has_path : List ℕ → Tables → Bool
has_path p t = is_name t.path p || ends_in t.path (codes "/" ++ p)

abbrev pub of_these : List Tables → List ℕ → Callee
of_these (t ∷ u ∷ ts) w = TwoParents
of_these ts w = as_function (of_parents ts w) Nobody

-- whom an expression calls, if it is a call of a name
abbrev pub callee : Around → Tree → Callee
callee a (Call line w ts) = plain_callee a w
callee a (EfunCall line w ts) = as_efun (efun_named w)
callee a (ParentCall line w ts) = as_function (of_parents a.parents w) Nobody
callee a (NamedParentCall line p w ts) = of_these (filter (has_path p) a.parents) w
callee a _ = Nobody

-- Types of expressions

abbrev pub is_int_efun : Efun → Bool
is_int_efun efuns.Clonep = true
is_int_efun efuns.Objectp = true
is_int_efun efuns.Intp = true
is_int_efun efuns.Stringp = true
is_int_efun efuns.Pointerp = true
is_int_efun efuns.Mappingp = true
is_int_efun _ = false

abbrev pub is_comparison : BinOp → Bool
is_comparison ops.Eq = true
is_comparison ops.Ne = true
is_comparison ops.Lt = true
is_comparison ops.Le = true
is_comparison ops.Gt = true
is_comparison ops.Ge = true
is_comparison _ = false

abbrev pub mixed : ExprType
mixed = Typed (plain_type bases.Mixed)

abbrev pub an_int : ExprType
an_int = Typed (plain_type bases.Int)

abbrev pub type_of_int : ℤ → ExprType
type_of_int (pos zero) = Zero
type_of_int _ = an_int

abbrev pub answer_of : Callee → ExprType
answer_of (AFunction sig) = Typed sig.answer
answer_of (AnEfun e) = if is_int_efun e then an_int else mixed
answer_of _ = mixed

abbrev pub typed_or_mixed : Option TypeName → ExprType
typed_or_mixed None = mixed
typed_or_mixed (Some ty) = Typed ty

-- the type of an expression where some locals are seen; parentheses change nothing
abbrev pub type_of : Around → List Local → Tree → ExprType
type_of a ls (Int line n) = type_of_int n
type_of a ls (Text line w) = Typed (plain_type bases.String)
type_of a ls (Name line w) = typed_or_mixed (variable_kind a ls w)
type_of a ls (Paren line t) = type_of a ls t
type_of a ls (Array line ts) = Typed (record { base = bases.Mixed; stars = 1 })
type_of a ls (Mapping line ps) = Typed (plain_type bases.Mapping)
type_of a ls (Call line w ts) = answer_of (callee a (Call line w ts))
type_of a ls (EfunCall line w ts) = answer_of (callee a (EfunCall line w ts))
type_of a ls (ParentCall line w ts) = answer_of (callee a (ParentCall line w ts))
type_of a ls (NamedParentCall line p w ts) = answer_of (callee a (NamedParentCall line p w ts))
type_of a ls (Unary line op t) = an_int
type_of a ls (Cast line ty t) = Typed ty
type_of a ls (Binary line op l r) = if is_comparison op then an_int else mixed
type_of a ls _ = mixed

-- how many arguments an efun may have
abbrev pub is_at_most : ℕ → Option ℕ → Bool
is_at_most n None = true
is_at_most n (Some m) = nat_le n m

abbrev pub within : Arity → ℕ → Bool
within r n = nat_le r.least n && is_at_most n r.most

abbrev pub allows : Efun → ℕ → Bool
allows e n = within (arity e) n
