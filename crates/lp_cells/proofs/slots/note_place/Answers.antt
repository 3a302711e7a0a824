use Rattle.std.proofs.Common.{Some}
use Rattle.lp_cells.proofs.SlotLemmas.{length_copy, noted_copy}
use Rattle.lp_cells.proofs.slots.note_place.Goals as goal

pub returns-clause-places : goal.returns-clause-places
returns-clause-places c = noted_copy c.args.key.now c.in_ok-copy.field-0 (Some c.args.s) c.args.places.now.entries c.insert.new.self.entries c.in_ok-copy.ensures c.in_ok-insert.ensures.updates.0

pub returns-clause-len : goal.returns-clause-len
returns-clause-len c = length_copy c.args.key.now c.in_ok-copy.field-0 c.in_ok-insert.field-0 c.args.places.now.entries _ c.in_ok-copy.ensures c.requires c.in_ok-insert.ensures.old c.in_ok-insert.ensures.len
