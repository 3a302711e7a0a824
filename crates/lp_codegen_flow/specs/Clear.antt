-- Which statements are clear: each expression in them is, where it sees the locals before it; what a `foreach` without a
-- type takes is a variable; and no switch has `default` twice.
use Rattle.std.specs.Prelude.{◌≡◌, List, [], ◌∷◌, ◌++◌, Bool, false, ◌&&◌, ◌||◌, not, IsTrue, Option, Some, None}
use Rattle.lp_tree.specs.declared.stmt.Each.{Each}
use Rattle.lp_tree.specs.declared.stmt.Label.{Label}
use Rattle.lp_tree.specs.Trees.{Tree}
use Rattle.lp_tree.specs.Statements.{DeclaratorTree, InitTree, Nothing, DeclaresFirst, RunsFirst, StmtTree, Block, Empty, Run, Declares, If, While, DoWhile, For, Foreach, Switch, Break, Continue, Return, StmtTrees, NoStmt, MoreStmts, ElseTree, NoElse, Else, PartTrees, NoPart, LabelPart, StmtPart, in_function}
use Rattle.lp_language.specs.Exec.{is_default}
use Rattle.lp_language.specs.Resolve.{Variable}
use Rattle.lp_language.specs.Scope.{Names, behind, declared_each, declared_first, declared_second}
use Rattle.lp_codegen_expr.specs.Names.{Plan}
use Rattle.lp_codegen_expr.specs.Clear.{IsClear, IsVariable}
use Rattle.lp_codegen_flow.specs.Closed.{are_closed}

-- what may be missing
abbrev pub IsClearIf : Plan → Names → Option Tree → Type 0
IsClearIf l ns None = Unit {0}
IsClearIf l ns (Some e) = IsClear l ns e

-- what locals are set to: a local is seen behind its own value
abbrev pub AreClearOnes : Plan → Names → List DeclaratorTree → Type 0
AreClearOnes l ns [] = Unit {0}
AreClearOnes l ns (d ∷ ds) = IsClearIf l ns d.value × AreClearOnes l (ns ++ d.name ∷ []) ds

abbrev pub IsClearInit : Plan → Names → InitTree → Type 0
IsClearInit l ns Nothing = Unit {0}
IsClearInit l ns (DeclaresFirst d) = AreClearOnes l ns d.ones
IsClearInit l ns (RunsFirst e) = IsClear l ns e

-- a variable of a `foreach` has a type, or is one that is there
abbrev pub IsClearEach : Plan → Names → Each → Type 0
IsClearEach l ns e = e.type_name ≡ None → IsVariable l ns e.name

abbrev pub IsClearSecond : Plan → Names → Option Each → Type 0
IsClearSecond l ns None = Unit {0}
IsClearSecond l ns (Some e) = IsClearEach l ns e

-- a label is no second `default`
abbrev pub IsNew : Bool → Label → Type 0
IsNew met k = IsTrue (not (met && is_default k))

abbrev mutual
  pub IsClearStmt : Plan → Names → StmtTree → Type 0
  IsClearStmt l ns (Block line ss) = AreClearStmts l ns ss
  IsClearStmt l ns (Empty line) = Unit {0}
  IsClearStmt l ns (Run line e) = IsClear l ns e
  IsClearStmt l ns (Declares line d) = AreClearOnes l ns d.ones
  IsClearStmt l ns (If line e y n) = IsClear l ns e × IsClearStmt l ns y × IsClearElse l (behind ns y) n
  IsClearStmt l ns (While line e b) = IsClear l ns e × IsClearStmt l ns b
  IsClearStmt l ns (DoWhile line b e) = IsClearStmt l ns b × IsClear l (behind ns b) e
  IsClearStmt l ns (For line i t st b) =
      IsClearInit l ns i × IsClearIf l (ns ++ declared_first i) t × IsClearIf l (ns ++ declared_first i) st × IsClearStmt l (ns ++ declared_first i) b
  IsClearStmt l ns (Foreach line f g e b) =
      IsClear l ns e × IsClearEach l ns f × IsClearSecond l (ns ++ declared_each f) g × IsClearStmt l (ns ++ declared_each f ++ declared_second g) b
  IsClearStmt l ns (Switch line e ps) = IsClear l ns e × AreClearParts l ns false ps
  IsClearStmt l ns (Break line) = Unit {0}
  IsClearStmt l ns (Continue line) = Unit {0}
  IsClearStmt l ns (Return line e) = IsClearIf l ns e

  pub AreClearStmts : Plan → Names → StmtTrees → Type 0
  AreClearStmts l ns NoStmt = Unit {0}
  AreClearStmts l ns (MoreStmts s ss) = IsClearStmt l ns s × AreClearStmts l (behind ns s) ss

  pub IsClearElse : Plan → Names → ElseTree → Type 0
  IsClearElse l ns NoElse = Unit {0}
  IsClearElse l ns (Else s) = IsClearStmt l ns s

  -- parts of a switch, behind others in which `default` was met or not
  pub AreClearParts : Plan → Names → Bool → PartTrees → Type 0
  AreClearParts l ns met NoPart = Unit {0}
  AreClearParts l ns met (LabelPart k ps) = IsNew met k × AreClearParts l ns (met || is_default k) ps
  AreClearParts l ns met (StmtPart s ps) = IsClearStmt l ns s × AreClearParts l (behind ns s) met ps

-- the test, the step and the body of a `for`, with its locals
abbrev pub IsClearTurns : Plan → Names → Option Tree → Option Tree → StmtTree → Type 0
IsClearTurns l ns t st b = IsClearIf l ns t × IsClearIf l ns st × IsClearStmt l ns b

-- the variables of a `foreach`
abbrev pub AreClearEaches : Plan → Names → Each → Option Each → Type 0
AreClearEaches l ns f g = IsClearEach l ns f × IsClearSecond l (ns ++ declared_each f) g

-- the variables and the body of a `foreach`
abbrev pub IsClearOver : Plan → Names → Each → Option Each → StmtTree → Type 0
IsClearOver l ns f g b = AreClearEaches l ns f g × IsClearStmt l (ns ++ declared_each f ++ declared_second g) b

-- what variables of a file are set to, where some locals are seen
abbrev pub AreClearVariables : Plan → Names → List Variable → Type 0
AreClearVariables l ns [] = Unit {0}
AreClearVariables l ns (v ∷ vs) = IsClearIf l ns v.declared.value × AreClearVariables l ns vs

-- the statements of a function
abbrev pub IsClearFun : Plan → Names → StmtTrees → Type 0
IsClearFun l ns ss = AreClearStmts l ns ss × IsTrue (are_closed in_function ss)
