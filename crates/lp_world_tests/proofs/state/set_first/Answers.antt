use Rattle.std.proofs.Common.{refl}
use Rattle.lp_world.proofs.Closing.{closed_with_cells}
use Rattle.lp_world_tests.proofs.state.set_first.Goals as goal

pub returns : goal.returns
returns c = closed_with_cells c.args.live.now c.set.new.self c.requires c.set.ensures.stay (c.set.ensures.closed c.requires.cells (c.if-not-is_there-2.ensures.0 refl))
