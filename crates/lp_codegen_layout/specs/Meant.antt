-- When an expression without faults is clear.
use Rattle.std.specs.Prelude.{◌≡◌, ◌≢◌, ℕ, List, [], IsTrue, Bool, true, false, None, is_some, filter, length, nat_lt}
use Rattle.lp_tree.specs.Trees.{Tree, Name, Call, EfunCall, ParentCall, NamedParentCall, Sscanf, PostStep, PreStep, Assign, Sequence, Trees, NoTree, OneMore, is_place}
use Rattle.lp_code.specs.declared.tables.Tables.{Tables}
use Rattle.lp_types_expr.specs.Signatures.{of_parents}
use Rattle.lp_types_expr.specs.Known.{Around, variable_kind, plain_callee, Nobody, has_path, of_these}
use Rattle.lp_types_expr.specs.declared.local.Local.{Local}
use Rattle.lp_types_expr.specs.Walk.{Guilt, in_tree}
use Rattle.lp_types_expr.specs.ExprFaults.{expr_faults}
use Rattle.lp_language.specs.Scope.{Names}
use Rattle.lp_codegen_expr.specs.Names.{Plan, parent_with_in, parent_called_in}
use Rattle.lp_codegen_expr.specs.Clear.{IsVariable, IsCalled, IsEfun, IsParentCalled, IsClear}
use Rattle.lp_codegen_layout.specs.Each.{Each}

abbrev pub AreAllPlaces : Trees → Type 0
AreAllPlaces NoTree = Unit {0}
AreAllPlaces (OneMore p ps) = IsTrue (is_place p) × AreAllPlaces ps

-- What the grammar makes: what is assigned to is a name or an index, and no sequence is empty.
abbrev pub IsFormed : Tree → Type 0
IsFormed (Sscanf line t f ps) = AreAllPlaces ps
IsFormed (PostStep line s p) = IsTrue (is_place p)
IsFormed (PreStep line s p) = IsTrue (is_place p)
IsFormed (Assign line op p v) = IsTrue (is_place p)
IsFormed (Sequence line ts) = ts ≢ NoTree
IsFormed _ = Unit {0}

-- what each part of a clear expression is
abbrev pub IsFine : Plan → Names → Tree → Type 0
IsFine l ns (Name line w) = IsVariable l ns w
IsFine l ns (Call line w ts) = IsCalled l w
IsFine l ns (EfunCall line w ts) = IsEfun w
IsFine l ns (ParentCall line w ts) = IsParentCalled l (parent_with_in l w) w
IsFine l ns (NamedParentCall line p w ts) = IsParentCalled l (parent_called_in l p) w
IsFine l ns (Sscanf line t f ps) = AreAllPlaces ps
IsFine l ns (PostStep line s p) = IsTrue (is_place p)
IsFine l ns (PreStep line s p) = IsTrue (is_place p)
IsFine l ns (Assign line op p v) = IsTrue (is_place p)
IsFine l ns (Sequence line ts) = ts ≢ NoTree
IsFine l ns _ = Unit {0}

-- two parents or more have a path that a call names
abbrev pub is_ambiguous : List Tables → List ℕ → Bool
is_ambiguous ts p = nat_lt 1 (length (filter (has_path p) ts))

-- A layout and the locals know each name that the check of types knows.
pub record Knows (l : Plan) (ns : Names) (a : Around) (ls : List Local) : Type 0 where
  pub variables : (w : List ℕ) → is_some (variable_kind a ls w) ≡ true → IsVariable l ns w
  pub functions : (w : List ℕ) → plain_callee a w ≢ Nobody → IsCalled l w
  pub inherited : (w : List ℕ) → of_parents a.parents w ≢ None → IsParentCalled l (parent_with_in l w) w
  pub named : (p w : List ℕ) → is_ambiguous a.parents p ≡ false → of_these (filter (has_path p) a.parents) w ≢ Nobody → IsParentCalled l (parent_called_in l p) w

-- some faults are told of each call that names a path which two parents have
abbrev pub TellsAmbiguous : Guilt → List Tables → Type 0
TellsAmbiguous f ts = (line : ℕ) (p w : List ℕ) (args : Trees) → f (NamedParentCall line p w args) ≡ [] → is_ambiguous ts p ≡ false

-- An expression that the grammar makes is clear where the check of types finds no fault in it, and nothing that is told of
-- ambiguous parents is found there.
abbrev pub FaultlessIsClear : Type 0
FaultlessIsClear =
    (l : Plan) (ns : Names) (a : Around) (ls : List Local) (f : Guilt) (t : Tree) → Knows l ns a ls → TellsAmbiguous f a.parents → Each IsFormed t → expr_faults a ls t ≡ [] → in_tree f t ≡ [] → IsClear l ns t
