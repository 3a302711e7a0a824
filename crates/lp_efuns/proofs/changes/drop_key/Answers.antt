use Rattle.lp_world.proofs.Closing.{closed_with_cells}
use Rattle.lp_efuns.proofs.changes.drop_key.Goals as goal

pub returns-clause-closed : goal.returns-clause-closed
returns-clause-closed c = closed_with_cells c.args.live.now c.map_drop.new.self c.requires.closed c.map_drop.ensures.stay (c.map_drop.ensures.closed c.requires.closed.cells)
