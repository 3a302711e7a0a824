-- The levels of expressions that hold lists.
use Rattle.std.proofs.Common.{◌≡◌, ℕ, suc, max, map, List, ap, sym, ◌∙◌}
use Rattle.std.specs.Prelude.{Vec, Box}
use Rattle.std.specs.declared.alloc.Global.{Global}
use Rattle.lp_tree.specs.declared.expr.Expr.{Expr}
use Rattle.lp_tree.specs.declared.expr.Expr.TheVariants as variants
use Rattle.lp_tree.specs.declared.expr.Expr.TheVariants.{rolls-Array, rolls-Mapping, rolls-Call, rolls-EfunCall, rolls-ParentCall, rolls-NamedParentCall, rolls-CallOther, rolls-Sscanf, rolls-Sequence, rolls-Range}
use Rattle.lp_tree.specs.declared.expr.Expr.TheOpen as layer
use Rattle.lp_tree.specs.declared.expr.Expr.TheFolds.{fold-roll-Expr}
use Rattle.lp_tree.specs.declared.expr.Bound.{Bound}
use Rattle.lp_tree.specs.declared.expr.Bound.TheVariants as bounds
use Rattle.lp_tree.specs.Trees.{Tree, height, end_height, Range}
use Rattle.lp_tree.specs.TreeView.{tree_of, layer_tree}
use Rattle.lp_parser_expr.specs.Depth.{tallest, tallest_pair}
use Rattle.lp_parser_expr.specs.Capped.{pair_of, end_of}
use Rattle.lp_parser_expr.proofs.Shallow.{heights-trees, heights-pairs}

pub array_height : (line : ℕ) (v : Vec Expr Global) → height (tree_of (variants.Array line v)) ≡ suc (tallest (map tree_of v.items))
array_height line v = ap height (ap tree_of (sym (rolls-Array line v)) ∙ fold-roll-Expr Tree layer_tree (layer.Array line v)) ∙ ap suc (heights-trees (map tree_of v.items))

pub mapping_height : (line : ℕ) (v : Vec (Expr × Expr) Global) → height (tree_of (variants.Mapping line v)) ≡ suc (tallest_pair (map pair_of v.items))
mapping_height line v = ap height (ap tree_of (sym (rolls-Mapping line v)) ∙ fold-roll-Expr Tree layer_tree (layer.Mapping line v)) ∙ ap suc (heights-pairs (map pair_of v.items))

pub call_height : (line : ℕ) (w : List ℕ) (v : Vec Expr Global) → height (tree_of (variants.Call line w v)) ≡ suc (tallest (map tree_of v.items))
call_height line w v = ap height (ap tree_of (sym (rolls-Call line w v)) ∙ fold-roll-Expr Tree layer_tree (layer.Call line w v)) ∙ ap suc (heights-trees (map tree_of v.items))

pub efun_height : (line : ℕ) (w : List ℕ) (v : Vec Expr Global) → height (tree_of (variants.EfunCall line w v)) ≡ suc (tallest (map tree_of v.items))
efun_height line w v = ap height (ap tree_of (sym (rolls-EfunCall line w v)) ∙ fold-roll-Expr Tree layer_tree (layer.EfunCall line w v)) ∙ ap suc (heights-trees (map tree_of v.items))

pub parent_height : (line : ℕ) (w : List ℕ) (v : Vec Expr Global) → height (tree_of (variants.ParentCall line w v)) ≡ suc (tallest (map tree_of v.items))
parent_height line w v = ap height (ap tree_of (sym (rolls-ParentCall line w v)) ∙ fold-roll-Expr Tree layer_tree (layer.ParentCall line w v)) ∙ ap suc (heights-trees (map tree_of v.items))

pub named_height : (line : ℕ) (p w : List ℕ) (v : Vec Expr Global) → height (tree_of (variants.NamedParentCall line p w v)) ≡ suc (tallest (map tree_of v.items))
named_height line p w v = ap height (ap tree_of (sym (rolls-NamedParentCall line p w v)) ∙ fold-roll-Expr Tree layer_tree (layer.NamedParentCall line p w v)) ∙ ap suc (heights-trees (map tree_of v.items))

pub other_height : (line : ℕ) (t : Box Expr Global) (w : List ℕ) (v : Vec Expr Global) → height (tree_of (variants.CallOther line t w v)) ≡ suc (max (height (tree_of t.value)) (tallest (map tree_of v.items)))
other_height line t w v = ap height (ap tree_of (sym (rolls-CallOther line t w v)) ∙ fold-roll-Expr Tree layer_tree (layer.CallOther line t w v)) ∙ ap (λ n. suc (max (height (tree_of t.value)) n)) (heights-trees (map tree_of v.items))

pub scan_height : (line : ℕ) (t f : Box Expr Global) (v : Vec Expr Global) → height (tree_of (variants.Sscanf line t f v)) ≡ suc (max (height (tree_of t.value)) (max (height (tree_of f.value)) (tallest (map tree_of v.items))))
scan_height line t f v = ap height (ap tree_of (sym (rolls-Sscanf line t f v)) ∙ fold-roll-Expr Tree layer_tree (layer.Sscanf line t f v)) ∙ ap (λ n. suc (max (height (tree_of t.value)) (max (height (tree_of f.value)) n))) (heights-trees (map tree_of v.items))

pub sequence_height : (line : ℕ) (v : Vec Expr Global) → height (tree_of (variants.Sequence line v)) ≡ suc (tallest (map tree_of v.items))
sequence_height line v = ap height (ap tree_of (sym (rolls-Sequence line v)) ∙ fold-roll-Expr Tree layer_tree (layer.Sequence line v)) ∙ ap suc (heights-trees (map tree_of v.items))

pub range_height : (line : ℕ) (t : Box Expr Global) (a b : Bound (Box Expr Global)) → height (tree_of (variants.Range line t a b)) ≡ suc (max (height (tree_of t.value)) (max (end_height (end_of a)) (end_height (end_of b))))
range_height line t bounds.Open bounds.Open = ap height (ap tree_of (sym (rolls-Range line t bounds.Open bounds.Open)) ∙ fold-roll-Expr Tree layer_tree (layer.Range line t bounds.Open bounds.Open))
range_height line t bounds.Open (bounds.At e i) = ap height (ap tree_of (sym (rolls-Range line t bounds.Open (bounds.At e i))) ∙ fold-roll-Expr Tree layer_tree (layer.Range line t bounds.Open (bounds.At e i)))
range_height line t (bounds.At e i) bounds.Open = ap height (ap tree_of (sym (rolls-Range line t (bounds.At e i) bounds.Open)) ∙ fold-roll-Expr Tree layer_tree (layer.Range line t (bounds.At e i) bounds.Open))
range_height line t (bounds.At e i) (bounds.At f j) = ap height (ap tree_of (sym (rolls-Range line t (bounds.At e i) (bounds.At f j))) ∙ fold-roll-Expr Tree layer_tree (layer.Range line t (bounds.At e i) (bounds.At f j)))

pub range_tree : (line : ℕ) (t : Box Expr Global) (a b : Bound (Box Expr Global)) → tree_of (variants.Range line t a b) ≡ Range line (tree_of t.value) (end_of a) (end_of b)
range_tree line t bounds.Open bounds.Open = ap tree_of (sym (rolls-Range line t bounds.Open bounds.Open)) ∙ fold-roll-Expr Tree layer_tree (layer.Range line t bounds.Open bounds.Open)
range_tree line t bounds.Open (bounds.At e i) = ap tree_of (sym (rolls-Range line t bounds.Open (bounds.At e i))) ∙ fold-roll-Expr Tree layer_tree (layer.Range line t bounds.Open (bounds.At e i))
range_tree line t (bounds.At e i) bounds.Open = ap tree_of (sym (rolls-Range line t (bounds.At e i) bounds.Open)) ∙ fold-roll-Expr Tree layer_tree (layer.Range line t (bounds.At e i) bounds.Open)
range_tree line t (bounds.At e i) (bounds.At f j) = ap tree_of (sym (rolls-Range line t (bounds.At e i) (bounds.At f j))) ∙ fold-roll-Expr Tree layer_tree (layer.Range line t (bounds.At e i) (bounds.At f j))
