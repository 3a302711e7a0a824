use Rattle.lp_cells.proofs.ClosedLemmas.{closed_after_set}
use Rattle.lp_cells.proofs.cells.Cells.set.Goals as goal

pub returns-clause-closed : goal.returns-clause-closed
returns-clause-closed c = closed_after_set c.args.self.now c.write_item.new.self c.args.id c.args.i c.args.v c.write_item.result c.requires c.write_item.ensures.ok c.write_item.ensures.err
