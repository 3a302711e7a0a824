-- Expressions without where they lie in memory.
use Rattle.std.specs.Prelude.{ℕ, ℤ, List, [], ◌∷◌, Bool, true, false, max, suc}
use Rattle.lp_tree.specs.declared.operator.UnOp.{UnOp}
use Rattle.lp_tree.specs.declared.operator.BinOp.{BinOp}
use Rattle.lp_tree.specs.declared.operator.BinOp.TheVariants as ops
use Rattle.lp_tree.specs.declared.operator.AssignOp.{AssignOp}
use Rattle.lp_tree.specs.declared.operator.Step.{Step}
use Rattle.lp_tree.specs.declared.types.TypeName.{TypeName}
use Rattle.lp_tree.specs.declared.expr.Edge.{Edge}

-- one case per production, as in the program's expressions
mutual
  pub data Tree : Type 0 where
    Int : (line : ℕ) (value : ℤ) → Tree
    Text : (line : ℕ) (text : List ℕ) → Tree
    Name : (line : ℕ) (name : List ℕ) → Tree
    Paren : (line : ℕ) (inner : Tree) → Tree
    Array : (line : ℕ) (items : Trees) → Tree
    Mapping : (line : ℕ) (pairs : Pairs) → Tree
    Call : (line : ℕ) (name : List ℕ) (args : Trees) → Tree
    EfunCall : (line : ℕ) (name : List ℕ) (args : Trees) → Tree
    ParentCall : (line : ℕ) (name : List ℕ) (args : Trees) → Tree
    NamedParentCall : (line : ℕ) (parent name : List ℕ) (args : Trees) → Tree
    Catch : (line : ℕ) (inner : Tree) → Tree
    Sscanf : (line : ℕ) (text form : Tree) (places : Trees) → Tree
    Index : (line : ℕ) (of : Tree) (edge : Edge) (at : Tree) → Tree
    Range : (line : ℕ) (of : Tree) (from to : End) → Tree
    CallOther : (line : ℕ) (of : Tree) (name : List ℕ) (args : Trees) → Tree
    PostStep : (line : ℕ) (step : Step) (place : Tree) → Tree
    PreStep : (line : ℕ) (step : Step) (place : Tree) → Tree
    Unary : (line : ℕ) (op : UnOp) (of : Tree) → Tree
    Cast : (line : ℕ) (to : TypeName) (of : Tree) → Tree
    Binary : (line : ℕ) (op : BinOp) (left right : Tree) → Tree
    AndThen : (line : ℕ) (left right : Tree) → Tree
    OrElse : (line : ℕ) (left right : Tree) → Tree
    Cond : (line : ℕ) (test yes no : Tree) → Tree
    Assign : (line : ℕ) (op : AssignOp) (place value : Tree) → Tree
    Sequence : (line : ℕ) (parts : Trees) → Tree

  pub data Trees : Type 0 where
    NoTree : Trees
    OneMore : (first : Tree) (others : Trees) → Trees

  pub data Pairs : Type 0 where
    NoPair : Pairs
    OnePair : (key value : Tree) (others : Pairs) → Pairs

  -- an end of a range
  pub data End : Type 0 where
    Open : End
    At : (edge : Edge) (at : Tree) → End

abbrev pub trees : List Tree → Trees
trees [] = NoTree
trees (t ∷ ts) = OneMore t (trees ts)

abbrev pub pairs : List (Tree × Tree) → Pairs
pairs [] = NoPair
pairs (p ∷ ps) = OnePair p.0 p.1 (pairs ps)

-- The levels of productions, the loosest first: 0 a sequence, 2 an assignment, 3 a conditional, 4 to 13 the binary
-- operators, 14 the prefix operators and casts, 15 all that stands by itself or is postfix. No production has the
-- level 1, which is the comma's own.
abbrev pub level : BinOp → ℕ
level ops.Or = 6
level ops.Xor = 7
level ops.And = 8
level ops.Eq = 9
level ops.Ne = 9
level ops.Lt = 10
level ops.Le = 10
level ops.Gt = 10
level ops.Ge = 10
level ops.Shl = 11
level ops.Shr = 11
level ops.Add = 12
level ops.Sub = 12
level ops.Mul = 13
level ops.Div = 13
level ops.Rem = 13

-- the level of a tree's outermost production
abbrev pub rank : Tree → ℕ
rank (Sequence line parts) = 0
rank (Assign line op p v) = 2
rank (Cond line t y n) = 3
rank (OrElse line l r) = 4
rank (AndThen line l r) = 5
rank (Binary line op l r) = level op
rank (Unary line op t) = 14
rank (Cast line ty t) = 14
rank (PreStep line s t) = 14
rank _ = 15

-- the line of a tree's first token
abbrev pub line_of : Tree → ℕ
line_of (Int line n) = line
line_of (Text line w) = line
line_of (Name line w) = line
line_of (Paren line t) = line
line_of (Array line ts) = line
line_of (Mapping line ps) = line
line_of (Call line w ts) = line
line_of (EfunCall line w ts) = line
line_of (ParentCall line w ts) = line
line_of (NamedParentCall line p w ts) = line
line_of (Catch line t) = line
line_of (Sscanf line t f ps) = line
line_of (Index line t e i) = line
line_of (Range line t a b) = line
line_of (CallOther line t w ts) = line
line_of (PostStep line s t) = line
line_of (PreStep line s t) = line
line_of (Unary line op t) = line
line_of (Cast line ty t) = line
line_of (Binary line op l r) = line
line_of (AndThen line l r) = line
line_of (OrElse line l r) = line
line_of (Cond line t y n) = line
line_of (Assign line op p v) = line
line_of (Sequence line ts) = line

-- a place is a name or an index
abbrev pub is_place : Tree → Bool
is_place (Name line w) = true
is_place (Index line t e i) = true
is_place _ = false

-- The levels of nesting: each expression and each pair of parentheses is one below what it is part of. The
-- parentheses of calls, literals and casts are part of these; a sequence is one expression.
abbrev mutual
  pub height : Tree → ℕ
  height (Int line n) = 1
  height (Text line w) = 1
  height (Name line w) = 1
  height (Paren line t) = suc (height t)
  height (Array line ts) = suc (heights ts)
  height (Mapping line ps) = suc (pair_heights ps)
  height (Call line w ts) = suc (heights ts)
  height (EfunCall line w ts) = suc (heights ts)
  height (ParentCall line w ts) = suc (heights ts)
  height (NamedParentCall line p w ts) = suc (heights ts)
  height (Catch line t) = suc (height t)
  height (Sscanf line t f ps) = suc (max (height t) (max (height f) (heights ps)))
  height (Index line t e i) = suc (max (height t) (height i))
  height (Range line t a b) = suc (max (height t) (max (end_height a) (end_height b)))
  height (CallOther line t w ts) = suc (max (height t) (heights ts))
  height (PostStep line s t) = suc (height t)
  height (PreStep line s t) = suc (height t)
  height (Unary line op t) = suc (height t)
  height (Cast line ty t) = suc (height t)
  height (Binary line op l r) = suc (max (height l) (height r))
  height (AndThen line l r) = suc (max (height l) (height r))
  height (OrElse line l r) = suc (max (height l) (height r))
  height (Cond line t y n) = suc (max (height t) (max (height y) (height n)))
  height (Assign line op p v) = suc (max (height p) (height v))
  height (Sequence line ts) = suc (heights ts)

  pub heights : Trees → ℕ
  heights NoTree = 0
  heights (OneMore t ts) = max (height t) (heights ts)

  pub pair_heights : Pairs → ℕ
  pair_heights NoPair = 0
  pair_heights (OnePair k v ps) = max (max (height k) (height v)) (pair_heights ps)

  pub end_height : End → ℕ
  end_height Open = 0
  end_height (At e t) = height t
