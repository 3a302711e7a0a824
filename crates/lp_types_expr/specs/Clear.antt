-- Expressions that have a meaning everywhere: each name means a variable, each call calls somebody, and an efun is called
-- with as many arguments as it may have. That each place is a place is a rule of the grammar.
use Rattle.std.specs.Prelude.{ℕ, List, length, IsTrue, IsSome}
use Rattle.lp_tree.specs.Trees.{Tree, Int, Text, Name, Paren, Array, Mapping, Call, EfunCall, ParentCall, NamedParentCall, Catch, Sscanf, Index, Range, CallOther, PostStep, PreStep, Unary, Cast, Binary, AndThen, OrElse, Cond, Assign, Sequence, Trees, NoTree, OneMore, Pairs, NoPair, OnePair, End, Open, At}
use Rattle.lp_types_expr.specs.ExprFaults.{types_of}
use Rattle.lp_types_expr.specs.Known.{Around, Local, variable_kind, Callee, AFunction, ASimul, AnEfun, TwoParents, Nobody, callee, allows}

-- a call of somebody with so many arguments; `TwoParents` have the path that the call names, of which the layout tells
abbrev pub IsCalled : Callee → ℕ → Type 0
IsCalled Nobody n = ⊥
IsCalled (AnEfun e) n = IsTrue (allows e n)
IsCalled (AFunction sig) n = Unit
IsCalled ASimul n = Unit
IsCalled TwoParents n = Unit

abbrev mutual
  pub IsClear : Around → List Local → Tree → Type 0
  IsClear a ls (Int line n) = Unit
  IsClear a ls (Text line w) = Unit
  IsClear a ls (Name line w) = IsSome (variable_kind a ls w)
  IsClear a ls (Paren line t) = IsClear a ls t
  IsClear a ls (Array line ts) = AreClear a ls ts
  IsClear a ls (Mapping line ps) = AreClearPairs a ls ps
  IsClear a ls (Call line w ts) = IsCalled (callee a (Call line w ts)) (length (types_of a ls ts)) × AreClear a ls ts
  IsClear a ls (EfunCall line w ts) = IsCalled (callee a (EfunCall line w ts)) (length (types_of a ls ts)) × AreClear a ls ts
  IsClear a ls (ParentCall line w ts) = IsCalled (callee a (ParentCall line w ts)) (length (types_of a ls ts)) × AreClear a ls ts
  IsClear a ls (NamedParentCall line p w ts) = IsCalled (callee a (NamedParentCall line p w ts)) (length (types_of a ls ts)) × AreClear a ls ts
  IsClear a ls (Catch line t) = IsClear a ls t
  IsClear a ls (Sscanf line t m ps) = IsClear a ls t × (IsClear a ls m × AreClear a ls ps)
  IsClear a ls (Index line t e i) = IsClear a ls t × IsClear a ls i
  IsClear a ls (Range line t x y) = IsClear a ls t × (IsClearEnd a ls x × IsClearEnd a ls y)
  IsClear a ls (CallOther line t w ts) = IsClear a ls t × AreClear a ls ts
  IsClear a ls (PostStep line s t) = IsClear a ls t
  IsClear a ls (PreStep line s t) = IsClear a ls t
  IsClear a ls (Unary line op t) = IsClear a ls t
  IsClear a ls (Cast line ty t) = IsClear a ls t
  IsClear a ls (Binary line op l r) = IsClear a ls l × IsClear a ls r
  IsClear a ls (AndThen line l r) = IsClear a ls l × IsClear a ls r
  IsClear a ls (OrElse line l r) = IsClear a ls l × IsClear a ls r
  IsClear a ls (Cond line t y n) = IsClear a ls t × (IsClear a ls y × IsClear a ls n)
  IsClear a ls (Assign line op p v) = IsClear a ls p × IsClear a ls v
  IsClear a ls (Sequence line ts) = AreClear a ls ts

  pub AreClear : Around → List Local → Trees → Type 0
  AreClear a ls NoTree = Unit
  AreClear a ls (OneMore t ts) = IsClear a ls t × AreClear a ls ts

  pub AreClearPairs : Around → List Local → Pairs → Type 0
  AreClearPairs a ls NoPair = Unit
  AreClearPairs a ls (OnePair k v ps) = IsClear a ls k × (IsClear a ls v × AreClearPairs a ls ps)

  pub IsClearEnd : Around → List Local → End → Type 0
  IsClearEnd a ls Open = Unit
  IsClearEnd a ls (At e t) = IsClear a ls t
