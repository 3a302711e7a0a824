use Rattle.std.proofs.Common.{◌≡◌, ◌+◌, ◌++◌, ◌∷◌, [], ℕ, List, take, map}
use Rattle.lp_layout.specs.Origins.{rowed}
use Rattle.lp_layout.proofs.Taken.{left_more, map_next, rows_more}
use Rattle.lp_layout.proofs.rows.take_parent.Goals as goal

pub loop-known-preserved : goal.loop-known-preserved
loop-known-preserved c =
    let start = rowed c.args.origins.now in
    let xs : List (List ℕ) = map (λ s. s.name) (take c.loop-known.known-index c.args.slots.now) in
    let zs : List (List ℕ) = map (λ s. s.name) (take (c.loop-known.known-index + 1) c.args.slots.now) in
    let w : List ℕ = c.known-item.result.name in
    let e : zs ≡ xs ++ w ∷ [] = map_next (λ s. s.name) c.args.slots.now c.loop-known.known-index c.known-item.result c.loop-known-test.true c.known-item.is in
    record {
      rows = rows_more start (rowed c.loop-known.origins) xs (w ∷ []) zs c.args.rows.now.items c.loop-known.rows.items c.take_known.new.rows.items e c.loop-known.invariant.rest c.loop-known.invariant.rows c.in_ok-take_known.ensures.rows;
      rest = left_more start (rowed c.loop-known.origins) (rowed c.take_known.new.origins) xs (w ∷ []) zs e c.loop-known.invariant.rest c.in_ok-take_known.ensures.left;
    }
