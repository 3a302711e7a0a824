-- What holds of each part of an expression.
use Rattle.lp_tree.specs.Trees.{Tree, Int, Text, Name, Paren, Array, Mapping, Call, EfunCall, ParentCall, NamedParentCall, Catch, Sscanf, Index, Range, CallOther, PostStep, PreStep, Unary, Cast, Binary, AndThen, OrElse, Cond, Assign, Sequence, Trees, NoTree, OneMore, Pairs, NoPair, OnePair, End, Open, At}

-- it holds of the expression and of each expression in it
abbrev mutual
  pub Each : (Tree → Type 0) → Tree → Type 0
  Each P (Int line n) = P (Int line n)
  Each P (Text line w) = P (Text line w)
  Each P (Name line w) = P (Name line w)
  Each P (Paren line t) = P (Paren line t) × Each P t
  Each P (Array line ts) = P (Array line ts) × EachOf P ts
  Each P (Mapping line ps) = P (Mapping line ps) × EachOfPairs P ps
  Each P (Call line w ts) = P (Call line w ts) × EachOf P ts
  Each P (EfunCall line w ts) = P (EfunCall line w ts) × EachOf P ts
  Each P (ParentCall line w ts) = P (ParentCall line w ts) × EachOf P ts
  Each P (NamedParentCall line p w ts) = P (NamedParentCall line p w ts) × EachOf P ts
  Each P (Catch line t) = P (Catch line t) × Each P t
  Each P (Sscanf line t m ps) = P (Sscanf line t m ps) × Each P t × Each P m × EachOf P ps
  Each P (Index line t e i) = P (Index line t e i) × Each P t × Each P i
  Each P (Range line t a b) = P (Range line t a b) × Each P t × EachOfEnd P a × EachOfEnd P b
  Each P (CallOther line t w ts) = P (CallOther line t w ts) × Each P t × EachOf P ts
  Each P (PostStep line s t) = P (PostStep line s t) × Each P t
  Each P (PreStep line s t) = P (PreStep line s t) × Each P t
  Each P (Unary line op t) = P (Unary line op t) × Each P t
  Each P (Cast line ty t) = P (Cast line ty t) × Each P t
  Each P (Binary line op l r) = P (Binary line op l r) × Each P l × Each P r
  Each P (AndThen line l r) = P (AndThen line l r) × Each P l × Each P r
  Each P (OrElse line l r) = P (OrElse line l r) × Each P l × Each P r
  Each P (Cond line t y n) = P (Cond line t y n) × Each P t × Each P y × Each P n
  Each P (Assign line op p v) = P (Assign line op p v) × Each P p × Each P v
  Each P (Sequence line ts) = P (Sequence line ts) × EachOf P ts

  pub EachOf : (Tree → Type 0) → Trees → Type 0
  EachOf P NoTree = Unit {0}
  EachOf P (OneMore t ts) = Each P t × EachOf P ts

  pub EachOfPairs : (Tree → Type 0) → Pairs → Type 0
  EachOfPairs P NoPair = Unit {0}
  EachOfPairs P (OnePair k v ps) = Each P k × Each P v × EachOfPairs P ps

  pub EachOfEnd : (Tree → Type 0) → End → Type 0
  EachOfEnd P Open = Unit {0}
  EachOfEnd P (At e t) = Each P t
