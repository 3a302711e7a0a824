-- Levels as the program counts them.
use Rattle.std.specs.Prelude.{ℕ, min, Box}
use Rattle.std.specs.declared.alloc.Global.{Global}
use Rattle.lp_tree.specs.declared.expr.Expr.{Expr}
use Rattle.lp_tree.specs.declared.expr.Bound.{Bound}
use Rattle.lp_tree.specs.declared.expr.Bound.TheVariants as bounds
use Rattle.lp_tree.specs.Trees.{Tree, End, Open, At}
use Rattle.lp_tree.specs.TreeView.{tree_of}

-- the program's counts stand still at their type's end
abbrev pub capped : ℕ → ℕ
capped n = min n 4294967295

abbrev pub pair_of : Expr × Expr → Tree × Tree
pair_of p = (tree_of p.0, tree_of p.1)

abbrev pub end_of : Bound (Box Expr Global) → End
end_of bounds.Open = Open
end_of (bounds.At e t) = At e (tree_of t.value)
