use Rattle.std.proofs.Common.{sym, subst}
use Rattle.lp_cells.specs.Cells.{IsClosed, KeepsThere, stored_pairs}
use Rattle.lp_cells.specs.Mapping.{pairs_dropped}
use Rattle.lp_cells.proofs.ClosedLemmas.{there_pairs_set, closed_drop}
use Rattle.lp_cells.proofs.cells.Cells.map_drop.Goals as goal

pub returns-clause-stay : goal.returns-clause-stay
returns-clause-stay g c = subst (KeepsThere c.args.self.now) (sym c.drop_key.ensures.after) (there_pairs_set c.args.self.now c.args.id (pairs_dropped (g.L.Living.live c.args.live.now) (stored_pairs c.args.self.now c.args.id) c.args.k.now) c.requires)

pub returns-clause-closed : goal.returns-clause-closed
returns-clause-closed g c = λ h. subst IsClosed (sym c.drop_key.ensures.after) (closed_drop (g.L.Living.live c.args.live.now) c.args.self.now c.args.id c.args.k.now c.requires h)
