-- Lists of expressions and their levels.
use Rattle.std.proofs.Common.{◌≡◌, max, map, List, [], ◌∷◌, ◌++◌, refl, ap, ◌∙◌}
use Rattle.lp_tree.specs.declared.expr.Expr.{Expr}
use Rattle.lp_tree.specs.Trees.{height}
use Rattle.lp_tree.specs.TreeView.{tree_of}
use Rattle.lp_parser_expr.specs.Depth.{tallest, tallest_pair}
use Rattle.lp_parser_expr.specs.Capped.{pair_of}
use Rattle.lp_parser_expr.proofs.Shallow.{tallest-push, tallest_pair-push}

pub map-push : {A B : Type 0} (f : A → B) (xs : List A) (x : A) → map f (xs ++ x ∷ []) ≡ map f xs ++ f x ∷ []
map-push f [] x = refl
map-push f (y ∷ ys) x = ap (λ ts. f y ∷ ts) (map-push f ys x)

pub pushed_tallest : (old new : List Expr) (x : Expr) → new ≡ old ++ x ∷ [] → tallest (map tree_of new) ≡ max (tallest (map tree_of old)) (height (tree_of x))
pushed_tallest old new x e = ap (λ xs. tallest (map tree_of xs)) e ∙ ap tallest (map-push tree_of old x) ∙ tallest-push (map tree_of old) (tree_of x)

pub pushed_pair : (old new : List (Expr × Expr)) (k v : Expr) → new ≡ old ++ (k, v) ∷ [] → tallest_pair (map pair_of new) ≡ max (tallest_pair (map pair_of old)) (max (height (tree_of k)) (height (tree_of v)))
pushed_pair old new k v e = ap (λ xs. tallest_pair (map pair_of xs)) e ∙ ap tallest_pair (map-push pair_of old (k, v)) ∙ tallest_pair-push (map pair_of old) (tree_of k) (tree_of v)
