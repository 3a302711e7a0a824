-- The parents of a unit, one after another.
use Rattle.std.proofs.Common.{◌≡◌, ◌<◌, ◌+◌, ◌∙◌, ℕ, suc, List, [], ◌∷◌, ◌++◌, refl, ap, length, take, get_or, map}
use Rattle.std.proofs.lemmas.List.{take_more, map_push}
use Rattle.lp_tree.specs.declared.unit.Item.{Item}
use Rattle.lp_tree.specs.UnitView.{item_of}
use Rattle.lp_tree.specs.Units.{ItemTree, Inherit, Proto, Fun, Var}
use Rattle.lp_layout.specs.Layout.{inherits}
use Rattle.lp_front.specs.Names.{parents_in, file_of}

parents_append : (xs ys : List ItemTree) → parents_in (xs ++ ys) ≡ parents_in xs ++ parents_in ys
parents_append [] ys = refl
parents_append (Inherit line name ∷ xs) ys = ap (λ ps. record { line = line; file = file_of name } ∷ ps) (parents_append xs ys)
parents_append (Proto line ms ty w ps ∷ xs) ys = parents_append xs ys
parents_append (Fun line ms ty w ps b ∷ xs) ys = parents_append xs ys
parents_append (Var line ms base ds ∷ xs) ys = parents_append xs ys

-- one item more
pub one_more_parent : (items : List Item) (i : ℕ) (x : Item) → i < length items → parents_in (map item_of (take (i + 1) items)) ≡ parents_in (map item_of (take i items)) ++ parents_in (item_of (get_or items i x) ∷ [])
one_more_parent items i x h =
    ap (λ ys. parents_in (map item_of ys)) (take_more items i x h)
    ∙ ap parents_in (map_push item_of (take i items) (get_or items i x))
    ∙ parents_append (map item_of (take i items)) (item_of (get_or items i x) ∷ [])

pub counted : (xs : List ItemTree) → length (parents_in xs) ≡ inherits xs
counted [] = refl
counted (Inherit line name ∷ xs) = ap suc (counted xs)
counted (Proto line ms ty w ps ∷ xs) = counted xs
counted (Fun line ms ty w ps b ∷ xs) = counted xs
counted (Var line ms base ds ∷ xs) = counted xs
