-- The faults of an expression. At one token they come in the order UnknownName, UnknownFunction, WrongCount, WrongType;
-- a value that does not fit what it is assigned to is a fault of the statement round the expression.
use Rattle.std.specs.Prelude.{ℕ, List, [], ◌∷◌, ◌++◌, length, Bool, ◌||◌, ◌&&◌, not, nat_lt, Option, is_some, if◌then◌else◌}
use Rattle.lp_tree.specs.declared.fault.FaultKind.{FaultKind}
use Rattle.lp_tree.specs.declared.fault.FaultKind.TheVariants.{UnknownName, UnknownFunction, WrongCount, WrongType}
use Rattle.lp_tree.specs.declared.operator.AssignOp.TheVariants.{Set}
use Rattle.lp_tree.specs.declared.types.TypeName.{TypeName}
use Rattle.lp_tree.specs.Trees.{Tree, Name, Call, EfunCall, ParentCall, NamedParentCall, Assign, Trees, NoTree, OneMore}
use Rattle.lp_types_expr.specs.Kinds.{ExprType, fits, fit}
use Rattle.lp_types_expr.specs.Signatures.{Signature}
use Rattle.lp_types_expr.specs.Walk.{FaultAt, Guilt, in_tree, in_optional, gathered, gathered_if}
use Rattle.lp_types_expr.specs.Known.{Around, is_strong, Local, variable_kind, Callee, AFunction, ASimul, AnEfun, TwoParents, Nobody, callee, type_of, allows}

abbrev pub when : Bool → FaultKind → List FaultKind
when b k = if b then k ∷ [] else []

-- Expressions

abbrev pub types_of : Around → List Local → Trees → List ExprType
types_of a ls NoTree = []
types_of a ls (OneMore t ts) = type_of a ls t ∷ types_of a ls ts

-- each argument that does not fit its parameter
abbrev pub misfits : List TypeName → List ExprType → List FaultKind
misfits [] ts = []
misfits (p ∷ ps) [] = []
misfits (p ∷ ps) (t ∷ ts) = when (not (fits p t)) WrongType ++ misfits ps ts

-- too many arguments, or too few without `varargs`
abbrev pub is_wrong_count : Signature → ℕ → Bool
is_wrong_count sig n = nat_lt (length sig.params) n || (nat_lt n (length sig.params) && not sig.varargs)

-- what is wrong with a call
abbrev pub call_kinds : Bool → Callee → List ExprType → List FaultKind
call_kinds strong Nobody ts = UnknownFunction ∷ []
call_kinds strong ASimul ts = []
call_kinds strong TwoParents ts = []
call_kinds strong (AnEfun e) ts = when (not (allows e (length ts))) WrongCount
call_kinds strong (AFunction sig) ts = if strong then when (is_wrong_count sig (length ts)) WrongCount ++ misfits sig.params ts else []

-- what stands at the first token of a name or a call
abbrev pub guilt : Around → List Local → Guilt
guilt a ls (Name line w) = when (not (is_some (variable_kind a ls w))) UnknownName
guilt a ls (Call line w ts) = call_kinds (is_strong a.mode) (callee a (Call line w ts)) (types_of a ls ts)
guilt a ls (EfunCall line w ts) = call_kinds (is_strong a.mode) (callee a (EfunCall line w ts)) (types_of a ls ts)
guilt a ls (ParentCall line w ts) = call_kinds (is_strong a.mode) (callee a (ParentCall line w ts)) (types_of a ls ts)
guilt a ls (NamedParentCall line p w ts) = call_kinds (is_strong a.mode) (callee a (NamedParentCall line p w ts)) (types_of a ls ts)
guilt a ls _ = []

-- a value that does not fit what it is assigned to by `=`: this stands at the first token of the innermost statement
abbrev pub assignment_guilt : Around → List Local → Guilt
assignment_guilt a ls (Assign line Set p v) = when (is_strong a.mode && not (fit (type_of a ls p) (type_of a ls v))) WrongType
assignment_guilt a ls _ = []

abbrev pub assignments : Around → List Local → Tree → List FaultKind
assignments a ls t = gathered (assignment_guilt a ls) t

abbrev pub assignments_if : Around → List Local → Option Tree → List FaultKind
assignments_if a ls t = gathered_if (assignment_guilt a ls) t

abbrev pub expr_faults : Around → List Local → Tree → List FaultAt
expr_faults a ls t = in_tree (guilt a ls) t

abbrev pub expr_faults_if : Around → List Local → Option Tree → List FaultAt
expr_faults_if a ls t = in_optional (guilt a ls) t
