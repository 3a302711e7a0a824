-- The tree that a statement stands for.
use Rattle.std.specs.Prelude.{List, [], ◌∷◌, map, Option, Some, None, option_map, Box}
use Rattle.std.specs.declared.alloc.Global.{Global}
use Rattle.lp_tree.specs.declared.stmt.Declarator.{Declarator}
use Rattle.lp_tree.specs.declared.stmt.Local.{Local}
use Rattle.lp_tree.specs.declared.stmt.Init.{Init}
use Rattle.lp_tree.specs.declared.stmt.Init.TheVariants as inits
use Rattle.lp_tree.specs.declared.stmt.Part.{Part}
use Rattle.lp_tree.specs.declared.stmt.Part.TheVariants as parts
use Rattle.lp_tree.specs.declared.stmt.Stmt.{Stmt}
use Rattle.lp_tree.specs.declared.stmt.Stmt.TheOpen as layer
use Rattle.lp_tree.specs.declared.stmt.Stmt.TheFolds.{fold-Stmt}
use Rattle.lp_tree.specs.TreeView.{tree_of}
use Rattle.lp_tree.specs.Statements.{DeclaratorTree, LocalTree, InitTree, Nothing, DeclaresFirst, RunsFirst, StmtTree, Block, Empty, Run, Declares, If, While, DoWhile, For, Foreach, Switch, Break, Continue, Return, StmtTrees, NoStmt, MoreStmts, ElseTree, NoElse, Else, PartTrees, NoPart, LabelPart, StmtPart}

abbrev pub declarator_of : Declarator → DeclaratorTree
declarator_of d = record { line = d.line; stars = d.stars; name = d.name; value = option_map tree_of d.value }

abbrev pub local_of : Local → LocalTree
local_of d = record { line = d.line; base = d.base; ones = map declarator_of d.ones.items }

abbrev pub init_of : Init → InitTree
init_of inits.Nothing = Nothing
init_of (inits.Declares d) = DeclaresFirst (local_of d)
init_of (inits.Runs e) = RunsFirst (tree_of e)

abbrev pub stmt_trees : List StmtTree → StmtTrees
stmt_trees [] = NoStmt
stmt_trees (s ∷ ss) = MoreStmts s (stmt_trees ss)

abbrev pub else_of : Option (Box StmtTree Global) → ElseTree
else_of None = NoElse
else_of (Some s) = Else s.value

abbrev pub part_of : Part StmtTree → PartTrees → PartTrees
part_of (parts.Label k) ps = LabelPart k ps
part_of (parts.Stmt s) ps = StmtPart s ps

abbrev pub part_trees : List (Part StmtTree) → PartTrees
part_trees [] = NoPart
part_trees (p ∷ ps) = part_of p (part_trees ps)

-- one layer of a statement's tree
abbrev pub layer_stmt : layer.Stmt-F StmtTree → StmtTree
layer_stmt (layer.Block line ss) = Block line (stmt_trees ss.items)
layer_stmt (layer.Empty line) = Empty line
layer_stmt (layer.Run line e) = Run line (tree_of e)
layer_stmt (layer.Declares line d) = Declares line (local_of d)
layer_stmt (layer.If line e y n) = If line (tree_of e) y.value (else_of n)
layer_stmt (layer.While line e b) = While line (tree_of e) b.value
layer_stmt (layer.DoWhile line b e) = DoWhile line b.value (tree_of e)
layer_stmt (layer.For line i t s b) = For line (init_of i) (option_map tree_of t) (option_map tree_of s) b.value
layer_stmt (layer.Foreach line f s e b) = Foreach line f s (tree_of e) b.value
layer_stmt (layer.Switch line e ps) = Switch line (tree_of e) (part_trees ps.items)
layer_stmt (layer.Break line) = Break line
layer_stmt (layer.Continue line) = Continue line
layer_stmt (layer.Return line e) = Return line (option_map tree_of e)

-- the tree of a statement, without where it lies in memory
abbrev pub stmt_of : Stmt → StmtTree
stmt_of = fold-Stmt StmtTree layer_stmt
