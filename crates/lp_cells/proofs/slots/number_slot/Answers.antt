use Rattle.std.proofs.Common.{Some, refl, ap, ◌∙◌, length}
use Rattle.std.proofs.lemmas.Option.{slice_get_read}
use Rattle.lp_cells.proofs.SlotLemmas.{number_gap, number_next}
use Rattle.lp_cells.proofs.slots.number_slot.Goals as goal

pub returns-in-Some : goal.returns-in-Some
returns-in-Some c = number_next c.args.places.now.entries c.set_place.new.places.entries c.args.slots.now c.in-Some.key c.in-Some.field-0-1 c.args.s c.requires.before (slice_get_read c.args.slots.now (length c.args.slots.now) c.args.s c.index-slots-s.result refl c.requires.within c.index-slots-s.is ∙ ap Some c.in-Some.is) c.set_place.ensures.places c.set_place.ensures.len

pub returns-in_default : goal.returns-in_default
returns-in_default c = number_gap c.args.places.now.entries c.args.slots.now c.args.s c.requires.before (slice_get_read c.args.slots.now (length c.args.slots.now) c.args.s c.index-slots-s.result refl c.requires.within c.index-slots-s.is ∙ ap Some c.in_default.is)
