use Rattle.std.proofs.Common.{ap, is_some, sym}
use Rattle.lp_cells.proofs.SlotLemmas.{absent_indexed, gone_filled, gone_indexed, known_indexed, remove_absent}
use Rattle.lp_cells.proofs.slots.take_out.Goals as goal

pub returns-in-Some-clause-indexed : goal.returns-in-Some-clause-indexed
returns-in-Some-clause-indexed c = gone_indexed c.args.places.now.entries c.forget_place.new.places.entries c.args.slots.now.items c.args.key.now c.in-Some.s c.requires (sym c.in-Some.ensures.value) c.in-Some.ensures.places c.in-Some.ensures.len

pub returns-in-Some-clause-after : goal.returns-in-Some-clause-after
returns-in-Some-clause-after c = gone_filled c.args.places.now.entries c.args.slots.now.items c.args.key.now c.in-Some.s c.requires (sym c.in-Some.ensures.value)

pub returns-in-Some-clause-found : goal.returns-in-Some-clause-found
returns-in-Some-clause-found c = sym (known_indexed c.args.places.now.entries c.args.slots.now.items c.args.key.now c.in-Some.s c.requires (sym c.in-Some.ensures.value))

pub returns-in-None-clause-after : goal.returns-in-None-clause-after
returns-in-None-clause-after c = remove_absent _ c.args.key.now (absent_indexed c.args.places.now.entries c.args.slots.now.items c.args.key.now c.requires (sym c.in-None.ensures.value))

pub returns-in-None-clause-found : goal.returns-in-None-clause-found
returns-in-None-clause-found c = sym (ap is_some (absent_indexed c.args.places.now.entries c.args.slots.now.items c.args.key.now c.requires (sym c.in-None.ensures.value)))
