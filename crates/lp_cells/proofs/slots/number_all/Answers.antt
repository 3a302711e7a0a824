use Rattle.lp_cells.proofs.SlotLemmas.{number_end}
use Rattle.lp_cells.proofs.slots.number_all.Goals as goal

pub returns : goal.returns
returns c = number_end c.loop-s.places.entries c.args.slots.now c.loop-s.s c.loop-s.invariant c.loop-s-test.false
