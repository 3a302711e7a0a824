use Rattle.std.proofs.Common.{sym, subst, ap, ◌∙◌}
use Rattle.lp_cells.specs.Slots.{IsNumbered, filled}
use Rattle.lp_cells.proofs.SlotLemmas.{filled_filter, number_start}
use Rattle.lp_cells.proofs.slots.close_gaps.Goals as goal

pub number_all-requires : goal.number_all-requires
number_all-requires c = subst (IsNumbered 0 c.args.places.now.entries) (sym (c.deref.ensures.value ∙ c.keep_filled.ensures)) (number_start c.args.places.now.entries c.args.slots.now.items c.requires)

pub returns-clause-kept : goal.returns-clause-kept
returns-clause-kept c = ap filled c.keep_filled.ensures ∙ filled_filter c.args.slots.now.items
