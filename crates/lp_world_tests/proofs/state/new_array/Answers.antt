use Rattle.std.proofs.Common.{All, refl, subst}
use Rattle.lp_cells.specs.Cells.{IsThere}
use Rattle.lp_world.proofs.Closing.{closed_with_cells}
use Rattle.lp_world_tests.proofs.state.new_array.Goals as goal

pub returns-in-Ok : goal.returns-in-Ok
returns-in-Ok c =
    closed_with_cells c.args.live.now c.new_array.new.self c.requires c.new_array.ensures.stay
    (c.new_array.ensures.closed c.requires.cells (subst (All (IsThere c.args.live.now.cells)) c.as_slice.ensures.value (c.if-not-has_all.ensures refl)))

pub returns-in-Err : goal.returns-in-Err
returns-in-Err c =
    closed_with_cells c.args.live.now c.new_array.new.self c.requires c.new_array.ensures.stay
    (c.new_array.ensures.closed c.requires.cells (subst (All (IsThere c.args.live.now.cells)) c.as_slice.ensures.value (c.if-not-has_all.ensures refl)))
