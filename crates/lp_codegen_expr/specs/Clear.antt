-- Which trees are clear: each name in them means something, what is assigned to is a place, and no sequence is empty.
use Rattle.std.specs.Prelude.{◌≡◌, ◌≢◌, ℕ, List, Option, Some, None, IsTrue, Box, map}
use Rattle.std.specs.declared.alloc.Global.{Global}
use Rattle.lp_tree.specs.declared.expr.Expr.{Expr}
use Rattle.lp_tree.specs.declared.expr.Bound.{Bound}
use Rattle.lp_tree.specs.Trees.{Tree, Int, Text, Name, Paren, Array, Mapping, Call, EfunCall, ParentCall, NamedParentCall, Catch, Sscanf, Index, Range, CallOther, PostStep, PreStep, Unary, Cast, Binary, AndThen, OrElse, Cond, Assign, Sequence, Trees, NoTree, OneMore, Pairs, NoPair, OnePair, End, Open, At, is_place, trees, pairs}
use Rattle.lp_tree.specs.TreeView.{tree_of}
use Rattle.lp_tree.specs.Pieces.{end_tree, pair_of}
use Rattle.lp_instr.specs.EfunList.{efun_named}
use Rattle.lp_language.specs.Scope.{Names}
use Rattle.lp_codegen_expr.specs.Names.{Plan, variable_in_scope, callee_in, parent_with_in, parent_called_in, row_in}
use Rattle.lp_codegen_expr.specs.declared.scope.Variable.TheVariants as variables
use Rattle.lp_codegen_expr.specs.declared.scope.Called.TheVariants as called
use Rattle.lp_codegen_expr.specs.declared.code.GenFault.{GenFault}
use Rattle.lp_codegen_expr.specs.declared.code.GenFault.TheVariants.{Unclear}

-- a name is that of a local or of a variable that can be seen
abbrev pub IsVariable : Plan → Names → List ℕ → Type 0
IsVariable l ns w = variable_in_scope l ns w ≢ variables.Nothing

-- somebody is called by a name
abbrev pub IsCalled : Plan → List ℕ → Type 0
IsCalled l w = callee_in l w ≢ called.Nobody

-- an efun has a name
abbrev pub IsEfun : List ℕ → Type 0
IsEfun w = efun_named w ≢ None

-- the row of a name in the table of a parent, if there is that parent
abbrev pub row_beyond : Plan → Option ℕ → List ℕ → Option ℕ
row_beyond l None w = None
row_beyond l (Some parent) w = row_in l parent w

abbrev pub IsParentCalled : Plan → Option ℕ → List ℕ → Type 0
IsParentCalled l parent w = row_beyond l parent w ≢ None

-- What is assigned to is a name or an index.
abbrev mutual
  pub IsClear : Plan → Names → Tree → Type 0
  IsClear l ns (Int line n) = Unit {0}
  IsClear l ns (Text line t) = Unit {0}
  IsClear l ns (Name line w) = IsVariable l ns w
  IsClear l ns (Paren line e) = IsClear l ns e
  IsClear l ns (Array line es) = AreClear l ns es
  IsClear l ns (Mapping line ps) = ArePairsClear l ns ps
  IsClear l ns (Call line w es) = AreClear l ns es × IsCalled l w
  IsClear l ns (EfunCall line w es) = AreClear l ns es × IsEfun w
  IsClear l ns (ParentCall line w es) = AreClear l ns es × IsParentCalled l (parent_with_in l w) w
  IsClear l ns (NamedParentCall line p w es) = AreClear l ns es × IsParentCalled l (parent_called_in l p) w
  IsClear l ns (Catch line e) = IsClear l ns e
  IsClear l ns (Sscanf line e form ps) = IsClear l ns e × IsClear l ns form × ArePlaces l ns ps
  IsClear l ns (Index line e edge i) = IsClear l ns e × IsClear l ns i
  IsClear l ns (Range line e a b) = IsClear l ns e × IsEndClear l ns a × IsEndClear l ns b
  IsClear l ns (CallOther line e w es) = IsClear l ns e × AreClear l ns es
  IsClear l ns (PostStep line st p) = IsTrue (is_place p) × IsClear l ns p
  IsClear l ns (PreStep line st p) = IsTrue (is_place p) × IsClear l ns p
  IsClear l ns (Unary line op e) = IsClear l ns e
  IsClear l ns (Cast line ty e) = IsClear l ns e
  IsClear l ns (Binary line op a b) = IsClear l ns a × IsClear l ns b
  IsClear l ns (AndThen line a b) = IsClear l ns a × IsClear l ns b
  IsClear l ns (OrElse line a b) = IsClear l ns a × IsClear l ns b
  IsClear l ns (Cond line a b d) = IsClear l ns a × IsClear l ns b × IsClear l ns d
  IsClear l ns (Assign line op p e) = IsTrue (is_place p) × IsClear l ns p × IsClear l ns e
  IsClear l ns (Sequence line es) = (es ≢ NoTree) × AreClear l ns es

  pub AreClear : Plan → Names → Trees → Type 0
  AreClear l ns NoTree = Unit {0}
  AreClear l ns (OneMore e es) = IsClear l ns e × AreClear l ns es

  pub ArePairsClear : Plan → Names → Pairs → Type 0
  ArePairsClear l ns NoPair = Unit {0}
  ArePairsClear l ns (OnePair k v ps) = IsClear l ns k × IsClear l ns v × ArePairsClear l ns ps

  pub ArePlaces : Plan → Names → Trees → Type 0
  ArePlaces l ns NoTree = Unit {0}
  ArePlaces l ns (OneMore p ps) = IsTrue (is_place p) × IsClear l ns p × ArePlaces l ns ps

  pub IsEndClear : Plan → Names → End → Type 0
  IsEndClear l ns Open = Unit {0}
  IsEndClear l ns (At edge e) = IsClear l ns e

-- a clear place
abbrev pub IsClearPlace : Plan → Names → Tree → Type 0
IsClearPlace l ns p = IsTrue (is_place p) × IsClear l ns p

-- Why a tree was refused: where it is clear, for want of memory or of room alone.
abbrev pub Spares : Type 0 → GenFault → Type 0
Spares clear f = f ≡ Unclear → clear → ⊥

-- The same of expressions as the program holds them.
abbrev pub IsExprClear : Plan → Names → Expr → Type 0
IsExprClear l ns e = IsClear l ns (tree_of e)

abbrev pub AreAllClear : Plan → Names → List Expr → Type 0
AreAllClear l ns es = AreClear l ns (trees (map tree_of es))

abbrev pub AreEachPairClear : Plan → Names → List (Expr × Expr) → Type 0
AreEachPairClear l ns ps = ArePairsClear l ns (pairs (map pair_of ps))

abbrev pub IsPlaceClear : Plan → Names → Expr → Type 0
IsPlaceClear l ns e = IsClearPlace l ns (tree_of e)

abbrev pub ArePlacesClear : Plan → Names → List Expr → Type 0
ArePlacesClear l ns es = ArePlaces l ns (trees (map tree_of es))

abbrev pub IsBoundClear : Plan → Names → Bound (Box Expr Global) → Type 0
IsBoundClear l ns b = IsEndClear l ns (end_tree b)
