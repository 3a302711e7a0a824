use Rattle.lp_cells.proofs.ClosedLemmas.{value_there}
use Rattle.lp_cells.proofs.cells.Cells.map_get.Goals as goal

pub returns-clause-there : goal.returns-clause-there
returns-clause-there g c = λ h. value_there (g.L.Living.live c.args.live.now) c.args.self.now c.find_read.result c.pairs.result.now c.args.k.now c.find_read.ensures (c.pairs.ensures.there h)
