-- Where the faults of an expression stand, and in which order: by the first tokens of its parts. Each part has the kinds
-- of faults that are its own.
use Rattle.std.specs.Prelude.{ℕ, List, [], ◌++◌, map, Option, Some, None}
use Rattle.lp_tree.specs.declared.fault.FaultKind.{FaultKind}
pub use Rattle.lp_types_expr.specs.declared.fault.FaultAt.{FaultAt}
use Rattle.lp_tree.specs.Trees.{Tree, Int, Text, Name, Paren, Array, Mapping, Call, EfunCall, ParentCall, NamedParentCall, Catch, Sscanf, Index, Range, CallOther, PostStep, PreStep, Unary, Cast, Binary, AndThen, OrElse, Cond, Assign, Sequence, Trees, NoTree, OneMore, Pairs, NoPair, OnePair, End, Open, At, line_of}

abbrev pub fault_at : ℕ → FaultKind → FaultAt
fault_at line k = record { line = line; kind = k }

-- some kinds at one token
abbrev pub all_at : ℕ → List FaultKind → List FaultAt
all_at line ks = map (fault_at line) ks

-- what each part is guilty of
abbrev pub Guilt : Type 0
Guilt = Tree → List FaultKind

-- The kinds at an expression's first token: those of the part that begins there and of all that begin with it.
abbrev mutual
  pub at_first : Guilt → Tree → List FaultKind
  at_first f (Index line t e i) = at_first f t ++ f (Index line t e i)
  at_first f (Range line t a b) = at_first f t ++ f (Range line t a b)
  at_first f (CallOther line t w ts) = at_first f t ++ f (CallOther line t w ts)
  at_first f (PostStep line s t) = at_first f t ++ f (PostStep line s t)
  at_first f (Binary line op l r) = at_first f l ++ f (Binary line op l r)
  at_first f (AndThen line l r) = at_first f l ++ f (AndThen line l r)
  at_first f (OrElse line l r) = at_first f l ++ f (OrElse line l r)
  at_first f (Cond line t y n) = at_first f t ++ f (Cond line t y n)
  at_first f (Assign line op p v) = at_first f p ++ f (Assign line op p v)
  at_first f (Sequence line ts) = at_first_of f ts ++ f (Sequence line ts)
  at_first f t = f t

  pub at_first_of : Guilt → Trees → List FaultKind
  at_first_of f NoTree = []
  at_first_of f (OneMore t ts) = at_first f t

-- The faults at the tokens behind the first, in the order of the tokens.
abbrev mutual
  pub behind_first : Guilt → Tree → List FaultAt
  behind_first f (Int line n) = []
  behind_first f (Text line w) = []
  behind_first f (Name line w) = []
  behind_first f (Paren line t) = all_at (line_of t) (at_first f t) ++ behind_first f t
  behind_first f (Array line ts) = in_trees f ts
  behind_first f (Mapping line ps) = in_pairs f ps
  behind_first f (Call line w ts) = in_trees f ts
  behind_first f (EfunCall line w ts) = in_trees f ts
  behind_first f (ParentCall line w ts) = in_trees f ts
  behind_first f (NamedParentCall line p w ts) = in_trees f ts
  behind_first f (Catch line t) = all_at (line_of t) (at_first f t) ++ behind_first f t
  behind_first f (Sscanf line t m ps) = all_at (line_of t) (at_first f t) ++ behind_first f t ++ all_at (line_of m) (at_first f m) ++ behind_first f m ++ in_trees f ps
  behind_first f (Index line t e i) = behind_first f t ++ all_at (line_of i) (at_first f i) ++ behind_first f i
  behind_first f (Range line t a b) = behind_first f t ++ in_end f a ++ in_end f b
  behind_first f (CallOther line t w ts) = behind_first f t ++ in_trees f ts
  behind_first f (PostStep line s t) = behind_first f t
  behind_first f (PreStep line s t) = all_at (line_of t) (at_first f t) ++ behind_first f t
  behind_first f (Unary line op t) = all_at (line_of t) (at_first f t) ++ behind_first f t
  behind_first f (Cast line ty t) = all_at (line_of t) (at_first f t) ++ behind_first f t
  behind_first f (Binary line op l r) = behind_first f l ++ all_at (line_of r) (at_first f r) ++ behind_first f r
  behind_first f (AndThen line l r) = behind_first f l ++ all_at (line_of r) (at_first f r) ++ behind_first f r
  behind_first f (OrElse line l r) = behind_first f l ++ all_at (line_of r) (at_first f r) ++ behind_first f r
  behind_first f (Cond line t y n) = behind_first f t ++ all_at (line_of y) (at_first f y) ++ behind_first f y ++ all_at (line_of n) (at_first f n) ++ behind_first f n
  behind_first f (Assign line op p v) = behind_first f p ++ all_at (line_of v) (at_first f v) ++ behind_first f v
  behind_first f (Sequence line ts) = behind_first_of f ts

  -- of parts of which the first begins at the first token
  pub behind_first_of : Guilt → Trees → List FaultAt
  behind_first_of f NoTree = []
  behind_first_of f (OneMore t ts) = behind_first f t ++ in_trees f ts

  pub in_trees : Guilt → Trees → List FaultAt
  in_trees f NoTree = []
  in_trees f (OneMore t ts) = all_at (line_of t) (at_first f t) ++ behind_first f t ++ in_trees f ts

  pub in_pairs : Guilt → Pairs → List FaultAt
  in_pairs f NoPair = []
  in_pairs f (OnePair k v ps) = all_at (line_of k) (at_first f k) ++ behind_first f k ++ all_at (line_of v) (at_first f v) ++ behind_first f v ++ in_pairs f ps

  pub in_end : Guilt → End → List FaultAt
  in_end f Open = []
  in_end f (At e t) = all_at (line_of t) (at_first f t) ++ behind_first f t

-- all faults of an expression, in the order of their tokens
abbrev pub in_tree : Guilt → Tree → List FaultAt
in_tree f t = all_at (line_of t) (at_first f t) ++ behind_first f t

abbrev pub in_optional : Guilt → Option Tree → List FaultAt
in_optional f None = []
in_optional f (Some t) = in_tree f t

-- what an expression and its parts are guilty of, wherever it stands
abbrev mutual
  pub gathered : Guilt → Tree → List FaultKind
  gathered f (Int line n) = f (Int line n)
  gathered f (Text line w) = f (Text line w)
  gathered f (Name line w) = f (Name line w)
  gathered f (Paren line t) = f (Paren line t) ++ gathered f t
  gathered f (Array line ts) = f (Array line ts) ++ gathered_all f ts
  gathered f (Mapping line ps) = f (Mapping line ps) ++ gathered_pairs f ps
  gathered f (Call line w ts) = f (Call line w ts) ++ gathered_all f ts
  gathered f (EfunCall line w ts) = f (EfunCall line w ts) ++ gathered_all f ts
  gathered f (ParentCall line w ts) = f (ParentCall line w ts) ++ gathered_all f ts
  gathered f (NamedParentCall line p w ts) = f (NamedParentCall line p w ts) ++ gathered_all f ts
  gathered f (Catch line t) = f (Catch line t) ++ gathered f t
  gathered f (Sscanf line t m ps) = f (Sscanf line t m ps) ++ gathered f t ++ gathered f m ++ gathered_all f ps
  gathered f (Index line t e i) = f (Index line t e i) ++ gathered f t ++ gathered f i
  gathered f (Range line t a b) = f (Range line t a b) ++ gathered f t ++ gathered_end f a ++ gathered_end f b
  gathered f (CallOther line t w ts) = f (CallOther line t w ts) ++ gathered f t ++ gathered_all f ts
  gathered f (PostStep line s t) = f (PostStep line s t) ++ gathered f t
  gathered f (PreStep line s t) = f (PreStep line s t) ++ gathered f t
  gathered f (Unary line op t) = f (Unary line op t) ++ gathered f t
  gathered f (Cast line ty t) = f (Cast line ty t) ++ gathered f t
  gathered f (Binary line op l r) = f (Binary line op l r) ++ gathered f l ++ gathered f r
  gathered f (AndThen line l r) = f (AndThen line l r) ++ gathered f l ++ gathered f r
  gathered f (OrElse line l r) = f (OrElse line l r) ++ gathered f l ++ gathered f r
  gathered f (Cond line t y n) = f (Cond line t y n) ++ gathered f t ++ gathered f y ++ gathered f n
  gathered f (Assign line op p v) = f (Assign line op p v) ++ gathered f p ++ gathered f v
  gathered f (Sequence line ts) = f (Sequence line ts) ++ gathered_all f ts

  pub gathered_all : Guilt → Trees → List FaultKind
  gathered_all f NoTree = []
  gathered_all f (OneMore t ts) = gathered f t ++ gathered_all f ts

  pub gathered_pairs : Guilt → Pairs → List FaultKind
  gathered_pairs f NoPair = []
  gathered_pairs f (OnePair k v ps) = gathered f k ++ gathered f v ++ gathered_pairs f ps

  pub gathered_end : Guilt → End → List FaultKind
  gathered_end f Open = []
  gathered_end f (At e t) = gathered f t

abbrev pub gathered_if : Guilt → Option Tree → List FaultKind
gathered_if f None = []
gathered_if f (Some t) = gathered f t
