use Rattle.std.proofs.Common.{◌≡◌, length, take}
use Rattle.lp_types_expr.specs.Placed.{ArePlaced}
use Rattle.lp_types_expr.proofs.placed.keep.Given as goal

abbrev pub invariant-loop-rows : goal.invariant-loop-rows
invariant-loop-rows l = record {
  rest : take l.mark.locals l.rows.items ≡ take l.mark.locals l.fn.rows.items;
  placed : ArePlaced l.fn.rows.items l.fn.places → ArePlaced l.rows.items l.places;
}

abbrev pub decreases-loop-rows : goal.decreases-loop-rows
decreases-loop-rows l = length l.rows.items
