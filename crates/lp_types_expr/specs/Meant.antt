-- Expressions in which everything that is assigned to, stepped or scanned into is a place, and each sequence has a first
-- part. The grammar spells no others.
use Rattle.std.specs.Prelude.{◌≡◌, List, [], Bool, true, false, IsTrue}
use Rattle.lp_tree.specs.declared.seen.Seen.{Seen}
use Rattle.lp_tree.specs.Expressions.{Spells}
use Rattle.lp_tree.specs.Trees.{Tree, Int, Text, Name, Paren, Array, Mapping, Call, EfunCall, ParentCall, NamedParentCall, Catch, Sscanf, Index, Range, CallOther, PostStep, PreStep, Unary, Cast, Binary, AndThen, OrElse, Cond, Assign, Sequence, Trees, NoTree, OneMore, Pairs, NoPair, OnePair, End, Open, At, is_place}
use Rattle.lp_types_expr.specs.Clear.{IsClear}
use Rattle.lp_types_expr.specs.ExprFaults.{guilt}
use Rattle.lp_types_expr.specs.Known.{Around, Local}
use Rattle.lp_types_expr.specs.Walk.{in_tree}

abbrev pub has_first : Trees → Bool
has_first NoTree = false
has_first (OneMore t ts) = true

abbrev mutual
  pub HasPlaces : Tree → Type 0
  HasPlaces (Int line n) = Unit
  HasPlaces (Text line w) = Unit
  HasPlaces (Name line w) = Unit
  HasPlaces (Paren line t) = HasPlaces t
  HasPlaces (Array line ts) = HavePlaces ts
  HasPlaces (Mapping line ps) = HavePlacesPairs ps
  HasPlaces (Call line w ts) = HavePlaces ts
  HasPlaces (EfunCall line w ts) = HavePlaces ts
  HasPlaces (ParentCall line w ts) = HavePlaces ts
  HasPlaces (NamedParentCall line p w ts) = HavePlaces ts
  HasPlaces (Catch line t) = HasPlaces t
  HasPlaces (Sscanf line t m ps) = HasPlaces t × (HasPlaces m × ArePlaces ps)
  HasPlaces (Index line t e i) = HasPlaces t × HasPlaces i
  HasPlaces (Range line t x y) = HasPlaces t × (HasPlacesEnd x × HasPlacesEnd y)
  HasPlaces (CallOther line t w ts) = HasPlaces t × HavePlaces ts
  HasPlaces (PostStep line s t) = IsTrue (is_place t) × HasPlaces t
  HasPlaces (PreStep line s t) = IsTrue (is_place t) × HasPlaces t
  HasPlaces (Unary line op t) = HasPlaces t
  HasPlaces (Cast line ty t) = HasPlaces t
  HasPlaces (Binary line op l r) = HasPlaces l × HasPlaces r
  HasPlaces (AndThen line l r) = HasPlaces l × HasPlaces r
  HasPlaces (OrElse line l r) = HasPlaces l × HasPlaces r
  HasPlaces (Cond line t y n) = HasPlaces t × (HasPlaces y × HasPlaces n)
  HasPlaces (Assign line op p v) = IsTrue (is_place p) × (HasPlaces p × HasPlaces v)
  HasPlaces (Sequence line ts) = IsTrue (has_first ts) × HavePlaces ts

  pub HavePlaces : Trees → Type 0
  HavePlaces NoTree = Unit
  HavePlaces (OneMore t ts) = HasPlaces t × HavePlaces ts

  -- places themselves
  pub ArePlaces : Trees → Type 0
  ArePlaces NoTree = Unit
  ArePlaces (OneMore t ts) = IsTrue (is_place t) × (HasPlaces t × ArePlaces ts)

  pub HavePlacesPairs : Pairs → Type 0
  HavePlacesPairs NoPair = Unit
  HavePlacesPairs (OnePair k v ps) = HasPlaces k × (HasPlaces v × HavePlacesPairs ps)

  pub HasPlacesEnd : End → Type 0
  HasPlacesEnd Open = Unit
  HasPlacesEnd (At e t) = HasPlaces t

-- A meaning everywhere: each name means a variable, each call calls somebody, each place is a place.
pub record HasMeaning (a : Around) (ls : List Local) (t : Tree) : Type 0 where
  pub clear : IsClear a ls t
  pub places : HasPlaces t

-- an expression that is spelled and has no faults has a meaning everywhere
abbrev pub FaultlessHasMeaning : Type 0
FaultlessHasMeaning = (a : Around) (ls : List Local) (t : Tree) (ts rest : List Seen) → Spells t ts rest → in_tree (guilt a ls) t ≡ [] → HasMeaning a ls t
