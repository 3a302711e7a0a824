use Rattle.lp_cells.proofs.CellLemmas.{put_slot}
use Rattle.lp_cells.proofs.ClosedLemmas.{closed_after_put, there_after_put}
use Rattle.lp_cells.proofs.cells.Cells.map_put.Goals as goal

pub returns-clause-put : goal.returns-clause-put
returns-clause-put g c =
    rw (← c.self.view_is) (put_slot (g.L.Living.live c.args.live.now) c.self.inside.slots.items c.args.id c.index_mut.result.now c.put_in_slot.new.slot c.args.k c.args.v c.put_in_slot.result c.index_mut.ensures.value (rw c.self.view_is c.requires) c.put_in_slot.ensures)

pub returns-clause-stay : goal.returns-clause-stay
returns-clause-stay g c = there_after_put (g.L.Living.live c.args.live.now) c.args.self.now _ c.args.id c.args.k c.args.v c.put_in_slot.result c.requires (returns-clause-put g c)

pub returns-clause-closed : goal.returns-clause-closed
returns-clause-closed g c = closed_after_put (g.L.Living.live c.args.live.now) c.args.self.now _ c.args.id c.args.k c.args.v c.put_in_slot.result c.requires (returns-clause-put g c)
