-- The tree that an expression stands for.
use Rattle.std.specs.Prelude.{Box}
use Rattle.std.specs.declared.alloc.Global.{Global}
use Rattle.lp_tree.specs.declared.expr.Expr.{Expr}
use Rattle.lp_tree.specs.declared.expr.Expr.TheOpen as layer
use Rattle.lp_tree.specs.declared.expr.Expr.TheFolds.{fold-Expr}
use Rattle.lp_tree.specs.declared.expr.Bound.{Bound}
use Rattle.lp_tree.specs.declared.expr.Bound.TheVariants as bounds
use Rattle.lp_tree.specs.Trees.{Tree, Int, Text, Name, Paren, Array, Mapping, Call, EfunCall, ParentCall, NamedParentCall, Catch, Sscanf, Index, Range, CallOther, PostStep, PreStep, Unary, Cast, Binary, AndThen, OrElse, Cond, Assign, Sequence, End, Open, At, trees, pairs}

-- an end of a range
abbrev pub end_of : Bound (Box Tree Global) → End
end_of bounds.Open = Open
end_of (bounds.At e t) = At e t.value

-- one layer of a tree
abbrev pub layer_tree : layer.Expr-F Tree → Tree
layer_tree (layer.Int line n) = Int line n
layer_tree (layer.Text line w) = Text line w
layer_tree (layer.Name line w) = Name line w
layer_tree (layer.Paren line t) = Paren line t.value
layer_tree (layer.Array line ts) = Array line (trees ts.items)
layer_tree (layer.Mapping line ps) = Mapping line (pairs ps.items)
layer_tree (layer.Call line w ts) = Call line w (trees ts.items)
layer_tree (layer.EfunCall line w ts) = EfunCall line w (trees ts.items)
layer_tree (layer.ParentCall line w ts) = ParentCall line w (trees ts.items)
layer_tree (layer.NamedParentCall line p w ts) = NamedParentCall line p w (trees ts.items)
layer_tree (layer.Catch line t) = Catch line t.value
layer_tree (layer.Sscanf line t f ps) = Sscanf line t.value f.value (trees ps.items)
layer_tree (layer.Index line t e i) = Index line t.value e i.value
layer_tree (layer.Range line t a b) = Range line t.value (end_of a) (end_of b)
layer_tree (layer.CallOther line t w ts) = CallOther line t.value w (trees ts.items)
layer_tree (layer.PostStep line s t) = PostStep line s t.value
layer_tree (layer.PreStep line s t) = PreStep line s t.value
layer_tree (layer.Unary line op t) = Unary line op t.value
layer_tree (layer.Cast line ty t) = Cast line ty t.value
layer_tree (layer.Binary line op l r) = Binary line op l.value r.value
layer_tree (layer.AndThen line l r) = AndThen line l.value r.value
layer_tree (layer.OrElse line l r) = OrElse line l.value r.value
layer_tree (layer.Cond line t y n) = Cond line t.value y.value n.value
layer_tree (layer.Assign line op p v) = Assign line op p.value v.value
layer_tree (layer.Sequence line ts) = Sequence line (trees ts.items)

-- the tree of an expression, without where it lies in memory
abbrev pub tree_of : Expr → Tree
tree_of = fold-Expr Tree layer_tree
