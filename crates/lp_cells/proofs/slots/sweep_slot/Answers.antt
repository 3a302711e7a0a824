use Rattle.std.proofs.Common.{ap, sym, ◌∙◌}
use Rattle.std.specs.Option.{option_copied}
use Rattle.lp_cells.proofs.SlotLemmas.{dead_indexed, dead_same}
use Rattle.lp_cells.proofs.slots.sweep_slot.Goals as goal

pub returns-clause-indexed : goal.returns-clause-indexed
returns-clause-indexed g c = dead_indexed c.args.places.now.entries c.forget_place.new.places.entries c.args.slots.now.items (g.L.Living.live c.args.live.now) c.args.s c.index.result.now c.in-Some.key.now c.forget_place.result c.requires.indexed c.requires.within c.index.ensures (sym c.dead_key.ensures ∙ ap option_copied c.in-Some.is) c.forget_place.ensures.value c.forget_place.ensures.places c.forget_place.ensures.len

pub returns-clause-same : goal.returns-clause-same
returns-clause-same g c = dead_same c.args.slots.now.items (g.L.Living.live c.args.live.now) c.args.s c.index.result.now c.in-Some.key.now c.requires.within c.index.ensures (sym c.dead_key.ensures ∙ ap option_copied c.in-Some.is)
