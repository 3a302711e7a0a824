use Rattle.std.proofs.Common.{ap, sym, ◌∙◌, length}
use Rattle.lp_cells.proofs.SlotLemmas.{add_indexed}
use Rattle.lp_cells.proofs.slots.add.Goals as goal

pub returns-clause-indexed : goal.returns-clause-indexed
returns-clause-indexed c = add_indexed c.args.places.now.entries c.note_place.new.places.entries c.args.slots.now.items c.next_slot.new.slots.items c.push_reserved.new.self.items c.args.key c.args.v c.in_ok-place.place c.requires.indexed c.requires.absent c.next_slot.ensures.kept (c.in_ok-place.ensures.place ∙ ap length (sym c.next_slot.ensures.kept)) c.in_ok-note_place.ensures.places c.in_ok-note_place.ensures.len c.push_reserved.ensures.items
