-- Pieces of expressions and statements, without where they lie in memory.
use Rattle.std.specs.Prelude.{List, [], ◌∷◌, Box}
use Rattle.std.specs.declared.alloc.Global.{Global}
use Rattle.lp_tree.specs.declared.expr.Expr.{Expr}
use Rattle.lp_tree.specs.declared.expr.Bound.{Bound}
use Rattle.lp_tree.specs.declared.expr.Bound.TheVariants as bounds
use Rattle.lp_tree.specs.declared.stmt.Part.{Part}
use Rattle.lp_tree.specs.declared.stmt.Part.TheVariants as parts
use Rattle.lp_tree.specs.declared.stmt.Stmt.{Stmt}
use Rattle.lp_tree.specs.Trees.{Tree, End, Open, At}
use Rattle.lp_tree.specs.TreeView.{tree_of}
use Rattle.lp_tree.specs.Statements.{PartTrees, NoPart, LabelPart, StmtPart}
use Rattle.lp_tree.specs.StatementView.{stmt_of}

-- an end of a range
abbrev pub end_tree : Bound (Box Expr Global) → End
end_tree bounds.Open = Open
end_tree (bounds.At e x) = At e (tree_of x.value)

-- a key and its value
abbrev pub pair_of : Expr × Expr → Tree × Tree
pair_of p = (tree_of p.0, tree_of p.1)

-- the labels and statements of a switch
abbrev pub parts_of : List (Part Stmt) → PartTrees
parts_of [] = NoPart
parts_of (parts.Label k ∷ ps) = LabelPart k (parts_of ps)
parts_of (parts.Stmt s ∷ ps) = StmtPart (stmt_of s) (parts_of ps)
