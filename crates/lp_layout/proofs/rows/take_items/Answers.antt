use Rattle.std.proofs.Common.{◌≡◌, ◌+◌, ◌++◌, ◌∷◌, [], ℕ, List, take, map, subst}
use Rattle.lp_tree.specs.UnitView.{item_of}
use Rattle.lp_layout.specs.Layout.{AreSpelled, declared_names}
use Rattle.lp_layout.specs.Origins.{rowed}
use Rattle.lp_layout.proofs.Listing.{declared_next, spelled_first, spelled_second}
use Rattle.lp_layout.proofs.Taken.{left_more, rows_more}
use Rattle.lp_layout.proofs.rows.take_items.Goals as goal

pub loop-item-preserved : goal.loop-item-preserved
loop-item-preserved c =
    let start = rowed c.args.origins.now in
    let now = rowed c.loop-item.origins in
    let xs : List (List ℕ) = declared_names (map item_of (take c.loop-item.item-index c.args.items.now)) in
    let zs : List (List ℕ) = declared_names (map item_of (take (c.loop-item.item-index + 1) c.args.items.now)) in
    let ys : List (List ℕ) = declared_names (item_of c.item-item.result ∷ []) in
    let e : zs ≡ xs ++ ys = declared_next c.args.items.now c.loop-item.item-index c.item-item.result c.loop-item-test.true c.item-item.is in
    record {
      rows = λ h. rows_more start now xs ys zs c.args.rows.now.items c.loop-item.rows.items c.take_item.new.rows.items e c.loop-item.invariant.rest
          (c.loop-item.invariant.rows (spelled_first xs ys (subst AreSpelled e h))) (c.in_ok-take_item.ensures.rows (spelled_second xs ys (subst AreSpelled e h)));
      rest = left_more start now (rowed c.take_item.new.origins) xs ys zs e c.loop-item.invariant.rest c.in_ok-take_item.ensures.left;
    }
