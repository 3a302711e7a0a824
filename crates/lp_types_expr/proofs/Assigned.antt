-- The assignments of an expression whose values do not fit.
use Rattle.std.proofs.Common.{◌≡◌, ℕ, refl, sym, ap, ◌∙◌, Bool, true, false, not, List, [], ◌++◌, length}
use Rattle.std.specs.Prelude.{◌&&◌, OnOk}
use Rattle.std.specs.declared.result.Result.{Result}
use Rattle.std.specs.declared.result.Result.TheVariants.{Ok, Err}
use Rattle.lp_tree.specs.declared.fault.FaultKind.{FaultKind}
use Rattle.lp_tree.specs.declared.fault.FaultKind.TheVariants.{WrongType}
use Rattle.lp_tree.specs.declared.operator.AssignOp.TheVariants as assigns
use Rattle.lp_tree.specs.Trees.{Tree, Int, Text, Name, Paren, Array, Mapping, Call, EfunCall, ParentCall, NamedParentCall, Catch, Sscanf, Index, Range, CallOther, PostStep, PreStep, Unary, Cast, Binary, AndThen, OrElse, Cond, Assign, Sequence}
use Rattle.lp_types_expr.specs.Kinds.{fit}
use Rattle.lp_types_expr.specs.Known.{Around, is_strong, Local, type_of}
use Rattle.lp_types_expr.specs.ExprFaults.{when, assignment_guilt, assignments}
use Rattle.lp_types_expr.specs.declared.fault.FaultAt.{FaultAt}
use Rattle.lp_types_expr.specs.declared.visit.Visit.{Visit}
use Rattle.lp_types_expr.specs.Visits.{visited, visits, listed}
use Rattle.lp_types_expr.specs.Walk.{all_at}
use Rattle.lp_types_expr.proofs.Tallied.{some, part_by_part}

when_some : (b : Bool) (k : FaultKind) → when b k ≡ some (length (when b k)) k
when_some true k = refl
when_some false k = refl

-- each is of one kind
one_kind : (a : Around) (ls : List Local) (t : Tree) → assignment_guilt a ls t ≡ some (length (assignment_guilt a ls t)) WrongType
one_kind a ls (Int line v) = refl
one_kind a ls (Text line w) = refl
one_kind a ls (Name line w) = refl
one_kind a ls (Paren line t) = refl
one_kind a ls (Array line ts) = refl
one_kind a ls (Mapping line ps) = refl
one_kind a ls (Call line w ts) = refl
one_kind a ls (EfunCall line w ts) = refl
one_kind a ls (ParentCall line w ts) = refl
one_kind a ls (NamedParentCall line p w ts) = refl
one_kind a ls (Catch line t) = refl
one_kind a ls (Sscanf line t m ps) = refl
one_kind a ls (Index line t e i) = refl
one_kind a ls (Range line t x y) = refl
one_kind a ls (CallOther line t w ts) = refl
one_kind a ls (PostStep line s t) = refl
one_kind a ls (PreStep line s t) = refl
one_kind a ls (Unary line op t) = refl
one_kind a ls (Cast line ty t) = refl
one_kind a ls (Binary line op l r) = refl
one_kind a ls (AndThen line l r) = refl
one_kind a ls (OrElse line l r) = refl
one_kind a ls (Cond line t y n) = refl
one_kind a ls (Assign line assigns.Set p v) = when_some (is_strong a.mode && not (fit (type_of a ls p) (type_of a ls v))) WrongType
one_kind a ls (Assign line assigns.Add p v) = refl
one_kind a ls (Assign line assigns.Sub p v) = refl
one_kind a ls (Assign line assigns.Mul p v) = refl
one_kind a ls (Assign line assigns.Div p v) = refl
one_kind a ls (Assign line assigns.Rem p v) = refl
one_kind a ls (Assign line assigns.And p v) = refl
one_kind a ls (Assign line assigns.Or p v) = refl
one_kind a ls (Assign line assigns.Xor p v) = refl
one_kind a ls (Assign line assigns.Shl p v) = refl
one_kind a ls (Assign line assigns.Shr p v) = refl
one_kind a ls (Assign line assigns.AndThen p v) = refl
one_kind a ls (Assign line assigns.OrElse p v) = refl
one_kind a ls (Sequence line ts) = refl

assigned : (a : Around) (ls : List Local) (t : Tree) → listed (assignment_guilt a ls) (visits t) ≡ assignments a ls t
assigned a ls t = sym (part_by_part (assignment_guilt a ls) WrongType (one_kind a ls) t)

-- the misfits of an expression are those of its parts, in a list that was empty
pub of_parts : {E : Type 0} (r : Result (Unit {0}) E) (a : Around) (ls : List Local) (t : Tree) (line : ℕ) (o n : List FaultAt) (us vs ws : List Visit) → us ≡ [] → visited vs ≡ visited us ++ visits t → ws ≡ vs
    → OnOk r (n ≡ o ++ all_at line (listed (assignment_guilt a ls) (visited ws))) → OnOk r (n ≡ o ++ all_at line (assignments a ls t))
of_parts (Ok u) a ls t line o n us vs ws p q e h =
    h
    ∙ ap (λ z. o ++ all_at line (listed (assignment_guilt a ls) (visited z))) e
    ∙ ap (λ z. o ++ all_at line (listed (assignment_guilt a ls) z)) (q ∙ ap (λ z. visited z ++ visits t) p)
    ∙ ap (λ z. o ++ all_at line z) (assigned a ls t)
of_parts (Err e) a ls t line o n us vs ws p q d h = h
