use Rattle.std.proofs.Common.{◌≡◌, ◌+◌, ◌++◌, ℕ, List, take, map, ap, ◌∙◌}
use Rattle.lp_code.specs.declared.tables.Slot.{Slot}
use Rattle.lp_layout.specs.Layout.{names_in}
use Rattle.lp_layout.specs.Origins.{left, rowed, taken}
use Rattle.lp_layout.proofs.Listing.{names_next}
use Rattle.lp_layout.proofs.Taken.{left_more, rows_more}
use Rattle.lp_layout.proofs.rows.take_parents.Goals as goal

pub loop-parent-preserved : goal.loop-parent-preserved
loop-parent-preserved c =
    let start = rowed c.args.origins.now in
    let now = rowed c.loop-parent.origins in
    let xs : List (List ℕ) = names_in (take c.loop-parent.parent-index c.args.parents.now) in
    let zs : List (List ℕ) = names_in (take (c.loop-parent.parent-index + 1) c.args.parents.now) in
    let ys : List (List ℕ) = map (λ s. s.name) c.parent-item.result.slots in
    let e : zs ≡ xs ++ ys = names_next c.args.parents.now c.loop-parent.parent-index c.parent-item.result c.loop-parent-test.true c.parent-item.is in
    record {
      rows = rows_more start now xs ys zs c.args.rows.now.items c.loop-parent.rows.items c.take_parent.new.rows.items e c.loop-parent.invariant.rest c.loop-parent.invariant.rows
          (c.in_ok-take_parent.ensures.rows ∙ ap (λ (l : List Slot). c.loop-parent.rows.items ++ taken now (map (λ s. s.name) l)) c.as_slice.ensures);
      rest = left_more start now (rowed c.take_parent.new.origins) xs ys zs e c.loop-parent.invariant.rest
          (λ w. c.in_ok-take_parent.ensures.left w ∙ ap (λ (l : List Slot). left now (map (λ s. s.name) l) w) c.as_slice.ensures);
    }
