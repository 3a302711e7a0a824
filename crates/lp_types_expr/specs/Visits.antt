-- The parts of an expression, itself among them, in the order of their first tokens; of those that begin at one token the
-- innermost comes first. Each stands with the line of its first token. What is said of an expression part by part is said
-- over this list.
use Rattle.std.specs.Prelude.{◌≡◌, ℕ, List, [], ◌∷◌, ◌++◌, map}
use Rattle.lp_tree.specs.declared.fault.FaultKind.{FaultKind}
use Rattle.lp_tree.specs.Trees.{Tree, Int, Text, Name, Paren, Array, Mapping, Call, EfunCall, ParentCall, NamedParentCall, Catch, Sscanf, Index, Range, CallOther, PostStep, PreStep, Unary, Cast, Binary, AndThen, OrElse, Cond, Assign, Sequence, Trees, NoTree, OneMore, Pairs, NoPair, OnePair, End, Open, At, line_of}
use Rattle.lp_tree.specs.TreeView.{tree_of}
use Rattle.lp_types_expr.specs.declared.visit.Visit.{Visit}
use Rattle.lp_types_expr.specs.Walk.{FaultAt, Guilt, all_at, in_tree}

-- the parts that begin at an expression's first token, which is in a line
abbrev mutual
  pub firsts : ℕ → Tree → List (ℕ × Tree)
  firsts n (Index line t e i) = firsts n t ++ (n, Index line t e i) ∷ []
  firsts n (Range line t a b) = firsts n t ++ (n, Range line t a b) ∷ []
  firsts n (CallOther line t w ts) = firsts n t ++ (n, CallOther line t w ts) ∷ []
  firsts n (PostStep line s t) = firsts n t ++ (n, PostStep line s t) ∷ []
  firsts n (Binary line op l r) = firsts n l ++ (n, Binary line op l r) ∷ []
  firsts n (AndThen line l r) = firsts n l ++ (n, AndThen line l r) ∷ []
  firsts n (OrElse line l r) = firsts n l ++ (n, OrElse line l r) ∷ []
  firsts n (Cond line t y m) = firsts n t ++ (n, Cond line t y m) ∷ []
  firsts n (Assign line op p v) = firsts n p ++ (n, Assign line op p v) ∷ []
  firsts n (Sequence line ts) = firsts_of n ts ++ (n, Sequence line ts) ∷ []
  firsts n t = (n, t) ∷ []

  pub firsts_of : ℕ → Trees → List (ℕ × Tree)
  firsts_of n NoTree = []
  firsts_of n (OneMore t ts) = firsts n t

-- the parts that begin behind the first token
abbrev mutual
  pub behinds : Tree → List (ℕ × Tree)
  behinds (Int line n) = []
  behinds (Text line w) = []
  behinds (Name line w) = []
  behinds (Paren line t) = firsts (line_of t) t ++ behinds t
  behinds (Array line ts) = visits_all ts
  behinds (Mapping line ps) = visits_pairs ps
  behinds (Call line w ts) = visits_all ts
  behinds (EfunCall line w ts) = visits_all ts
  behinds (ParentCall line w ts) = visits_all ts
  behinds (NamedParentCall line p w ts) = visits_all ts
  behinds (Catch line t) = firsts (line_of t) t ++ behinds t
  behinds (Sscanf line t m ps) = (firsts (line_of t) t ++ behinds t) ++ ((firsts (line_of m) m ++ behinds m) ++ visits_all ps)
  behinds (Index line t e i) = behinds t ++ (firsts (line_of i) i ++ behinds i)
  behinds (Range line t a b) = behinds t ++ (visits_end a ++ visits_end b)
  behinds (CallOther line t w ts) = behinds t ++ visits_all ts
  behinds (PostStep line s t) = behinds t
  behinds (PreStep line s t) = firsts (line_of t) t ++ behinds t
  behinds (Unary line op t) = firsts (line_of t) t ++ behinds t
  behinds (Cast line ty t) = firsts (line_of t) t ++ behinds t
  behinds (Binary line op l r) = behinds l ++ (firsts (line_of r) r ++ behinds r)
  behinds (AndThen line l r) = behinds l ++ (firsts (line_of r) r ++ behinds r)
  behinds (OrElse line l r) = behinds l ++ (firsts (line_of r) r ++ behinds r)
  behinds (Cond line t y n) = behinds t ++ ((firsts (line_of y) y ++ behinds y) ++ (firsts (line_of n) n ++ behinds n))
  behinds (Assign line op p v) = behinds p ++ (firsts (line_of v) v ++ behinds v)
  behinds (Sequence line ts) = behinds_of ts

  -- of parts of which the first begins at the first token
  pub behinds_of : Trees → List (ℕ × Tree)
  behinds_of NoTree = []
  behinds_of (OneMore t ts) = behinds t ++ visits_all ts

  pub visits_all : Trees → List (ℕ × Tree)
  visits_all NoTree = []
  visits_all (OneMore t ts) = (firsts (line_of t) t ++ behinds t) ++ visits_all ts

  pub visits_pairs : Pairs → List (ℕ × Tree)
  visits_pairs NoPair = []
  visits_pairs (OnePair k v ps) = (firsts (line_of k) k ++ behinds k) ++ ((firsts (line_of v) v ++ behinds v) ++ visits_pairs ps)

  pub visits_end : End → List (ℕ × Tree)
  visits_end Open = []
  visits_end (At e t) = firsts (line_of t) t ++ behinds t

-- all parts
abbrev pub visits : Tree → List (ℕ × Tree)
visits t = firsts (line_of t) t ++ behinds t

-- what the program lists
abbrev pub visit_of : Visit → ℕ × Tree
visit_of v = (v.line, tree_of v.node.now)

abbrev pub visited : List Visit → List (ℕ × Tree)
visited vs = map visit_of vs

-- the faults of some parts, each at its line
abbrev pub judged : Guilt → List (ℕ × Tree) → List FaultAt
judged f [] = []
judged f (v ∷ vs) = all_at v.0 (f v.1) ++ judged f vs

-- what some parts are guilty of, wherever they stand
abbrev pub listed : Guilt → List (ℕ × Tree) → List FaultKind
listed f [] = []
listed f (v ∷ vs) = f v.1 ++ listed f vs

-- the faults of an expression are those of its parts, one after another
abbrev pub AreFaultsOfParts : Type 0
AreFaultsOfParts = (f : Guilt) (t : Tree) → in_tree f t ≡ judged f (visits t)
