use Rattle.std.proofs.Common.{◌≡◌, List, Some, subst}
use Rattle.std.specs.Prelude.{slice_get}
use Rattle.lp_code.specs.declared.tables.Slot.{Slot}
use Rattle.lp_layout.specs.Origins.{rowed}
use Rattle.lp_types_expr.proofs.Showing.{get_from}
use Rattle.lp_layout.proofs.shown.add_slots.Goals as goal

pub loop-i-preserved : goal.loop-i-preserved
loop-i-preserved c =
    let there : slice_get c.args.slots.now c.loop-i.i ≡ Some c.index-rows-i.result = subst (λ (xs : List Slot). slice_get xs c.loop-i.i ≡ Some c.index-rows-i.result) c.as_slice-rows.ensures (get_from c.as_slice-rows.result.now c.loop-i.i c.index-rows-i.result c.loop-i-test.true c.index-rows-i.is) in
    c.in_ok-add_place.ensures there (rowed c.args.origins.now) c.loop-i.invariant
