use Rattle.std.proofs.Common.{◌+◌, ◌++◌, ◌∷◌, [], ℕ, List, take, map, subst}
use Rattle.lp_tree.specs.UnitView.{item_of}
use Rattle.lp_layout.specs.Layout.{AreSpelled, own_rows, variable_names}
use Rattle.lp_layout.proofs.Listing.{behind, own_rows_next, spelled_first, spelled_second, variable_names_next}
use Rattle.lp_layout.proofs.variables.add_own.Goals as goal

pub loop-item-preserved : goal.loop-item-preserved
loop-item-preserved c = λ h.
    let is = c.args.items.now in
    let i = c.loop-item.item-index in
    let x = c.item-item.result in
    let xs : List (List ℕ) = variable_names (map item_of (take i is)) in
    let ys : List (List ℕ) = variable_names (item_of x ∷ []) in
    let both : AreSpelled (xs ++ ys) = subst AreSpelled (variable_names_next is i x c.loop-item-test.true c.item-item.is) h in
    behind c.args.rows.now.items c.loop-item.rows.items c.add_item.new.rows.items (own_rows c.args.part (map item_of (take i is))) (own_rows c.args.part (item_of x ∷ [])) (own_rows c.args.part (map item_of (take (i + 1) is)))
    (own_rows_next c.args.part is i x c.loop-item-test.true c.item-item.is) (c.loop-item.invariant (spelled_first xs ys both)) (c.in_ok-add_item.ensures (spelled_second xs ys both))
