use Rattle.std.proofs.Common.{None}
use Rattle.lp_cells.proofs.SlotLemmas.{noted_from}
use Rattle.lp_cells.proofs.slots.forget_place.Goals as goal

pub returns-clause-places : goal.returns-clause-places
returns-clause-places c = noted_from c.args.key.now None _ _ c.swap_remove.ensures.updates.0
