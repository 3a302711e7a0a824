-- Trees in which each call of an efun has a number of arguments that it allows.
use Rattle.std.specs.Prelude.{ℕ, ⊤, List, [], ◌∷◌, Option, Some, None}
use Rattle.lp_tree.specs.Trees.{Tree, Int, Text, Name, Paren, Array, Mapping, Call, EfunCall, ParentCall, NamedParentCall, Catch, Sscanf, Index, Range, CallOther, PostStep, PreStep, Unary, Cast, Binary, AndThen, OrElse, Cond, Assign, Sequence, Trees, NoTree, OneMore, Pairs, NoPair, OnePair, End, Open, At}
use Rattle.lp_tree.specs.Statements.{DeclaratorTree, InitTree, Nothing, DeclaresFirst, RunsFirst, StmtTree, Block, Empty, Run, Declares, If, While, DoWhile, For, Foreach, Switch, Break, Continue, Return, StmtTrees, NoStmt, MoreStmts, ElseTree, NoElse, Else, PartTrees, NoPart, LabelPart, StmtPart}
use Rattle.lp_instr.specs.EfunList.{Allows, efun_named}
use Rattle.lp_language.specs.Eval.{tree_count}
use Rattle.lp_language.specs.Resolve.{Function, Variable}
use Rattle.lp_language.specs.Scope.{Callee, AnEfun, as_efun}

-- an efun is called with so many arguments as it allows
abbrev pub IsAllowed : Callee → ℕ → Type 0
IsAllowed (AnEfun e) n = Allows e n
IsAllowed _ n = ⊤

-- each call in an expression is allowed, where names mean these
abbrev mutual
  pub Counted : (List ℕ → Callee) → Tree → Type 0
  Counted c (Int line n) = ⊤
  Counted c (Text line w) = ⊤
  Counted c (Name line w) = ⊤
  Counted c (Paren line t) = Counted c t
  Counted c (Array line ts) = AllCounted c ts
  Counted c (Mapping line ps) = PairsCounted c ps
  Counted c (Call line w ts) = IsAllowed (c w) (tree_count ts) × AllCounted c ts
  Counted c (EfunCall line w ts) = IsAllowed (as_efun (efun_named w)) (tree_count ts) × AllCounted c ts
  Counted c (ParentCall line w ts) = AllCounted c ts
  Counted c (NamedParentCall line p w ts) = AllCounted c ts
  Counted c (Catch line t) = Counted c t
  Counted c (Sscanf line t f ps) = Counted c t × Counted c f × AllCounted c ps
  Counted c (Index line t e i) = Counted c t × Counted c i
  Counted c (Range line t a b) = Counted c t × EndCounted c a × EndCounted c b
  Counted c (CallOther line t w ts) = Counted c t × AllCounted c ts
  Counted c (PostStep line s t) = Counted c t
  Counted c (PreStep line s t) = Counted c t
  Counted c (Unary line op t) = Counted c t
  Counted c (Cast line ty t) = Counted c t
  Counted c (Binary line op l r) = Counted c l × Counted c r
  Counted c (AndThen line l r) = Counted c l × Counted c r
  Counted c (OrElse line l r) = Counted c l × Counted c r
  Counted c (Cond line t y n) = Counted c t × Counted c y × Counted c n
  Counted c (Assign line op p v) = Counted c p × Counted c v
  Counted c (Sequence line ts) = AllCounted c ts

  pub AllCounted : (List ℕ → Callee) → Trees → Type 0
  AllCounted c NoTree = ⊤
  AllCounted c (OneMore t ts) = Counted c t × AllCounted c ts

  pub PairsCounted : (List ℕ → Callee) → Pairs → Type 0
  PairsCounted c NoPair = ⊤
  PairsCounted c (OnePair k v ps) = Counted c k × Counted c v × PairsCounted c ps

  pub EndCounted : (List ℕ → Callee) → End → Type 0
  EndCounted c Open = ⊤
  EndCounted c (At e t) = Counted c t

-- what may be missing
abbrev pub CountedIf : (List ℕ → Callee) → Option Tree → Type 0
CountedIf c None = ⊤
CountedIf c (Some t) = Counted c t

-- what locals or variables are set to
abbrev pub OnesCounted : (List ℕ → Callee) → List DeclaratorTree → Type 0
OnesCounted c [] = ⊤
OnesCounted c (d ∷ ds) = CountedIf c d.value × OnesCounted c ds

abbrev pub InitCounted : (List ℕ → Callee) → InitTree → Type 0
InitCounted c Nothing = ⊤
InitCounted c (DeclaresFirst d) = OnesCounted c d.ones
InitCounted c (RunsFirst t) = Counted c t

-- each call in a statement
abbrev mutual
  pub StmtCounted : (List ℕ → Callee) → StmtTree → Type 0
  StmtCounted c (Block line ss) = StmtsCounted c ss
  StmtCounted c (Empty line) = ⊤
  StmtCounted c (Run line t) = Counted c t
  StmtCounted c (Declares line d) = OnesCounted c d.ones
  StmtCounted c (If line t y n) = Counted c t × StmtCounted c y × ElseCounted c n
  StmtCounted c (While line t b) = Counted c t × StmtCounted c b
  StmtCounted c (DoWhile line b t) = StmtCounted c b × Counted c t
  StmtCounted c (For line i t st b) = InitCounted c i × CountedIf c t × CountedIf c st × StmtCounted c b
  StmtCounted c (Foreach line f g t b) = Counted c t × StmtCounted c b
  StmtCounted c (Switch line t ps) = Counted c t × PartsCounted c ps
  StmtCounted c (Break line) = ⊤
  StmtCounted c (Continue line) = ⊤
  StmtCounted c (Return line t) = CountedIf c t

  pub StmtsCounted : (List ℕ → Callee) → StmtTrees → Type 0
  StmtsCounted c NoStmt = ⊤
  StmtsCounted c (MoreStmts s ss) = StmtCounted c s × StmtsCounted c ss

  pub ElseCounted : (List ℕ → Callee) → ElseTree → Type 0
  ElseCounted c NoElse = ⊤
  ElseCounted c (Else s) = StmtCounted c s

  pub PartsCounted : (List ℕ → Callee) → PartTrees → Type 0
  PartsCounted c NoPart = ⊤
  PartsCounted c (LabelPart k ps) = PartsCounted c ps
  PartsCounted c (StmtPart s ps) = StmtCounted c s × PartsCounted c ps

-- in each of some functions
abbrev pub FunctionsCounted : (List ℕ → Callee) → List Function → Type 0
FunctionsCounted c [] = ⊤
FunctionsCounted c (f ∷ fs) = StmtsCounted c f.body × FunctionsCounted c fs

-- and in what each of some variables is set to
abbrev pub VariablesCounted : (List ℕ → Callee) → List Variable → Type 0
VariablesCounted c [] = ⊤
VariablesCounted c (v ∷ vs) = CountedIf c v.declared.value × VariablesCounted c vs
