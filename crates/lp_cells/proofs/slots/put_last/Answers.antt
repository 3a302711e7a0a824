use Rattle.std.proofs.Common.{ap, ◌∙◌}
use Rattle.std.specs.Map.{lookup}
use Rattle.lp_values.specs.Read.{value_eq}
use Rattle.lp_cells.proofs.SlotLemmas.{absent_indexed, absent_places, last_filled}
use Rattle.lp_cells.proofs.slots.put_last.Goals as goal

pub add-requires-clause-absent : goal.add-requires-clause-absent
add-requires-clause-absent c = absent_places c.tidy_full.new.places.entries c.tidy_full.new.slots.items c.args.key c.tidy_full.ensures.indexed (ap (lookup (value_eq c.args.key)) c.tidy_full.ensures.kept ∙ absent_indexed c.args.places.now.entries c.args.slots.now.items c.args.key c.requires.indexed c.requires.absent)

pub returns-clause-ok : goal.returns-clause-ok
returns-clause-ok c = last_filled c.args.slots.now.items c.tidy_full.new.slots.items c.add.new.slots.items c.args.key c.args.v c.tidy_full.ensures.kept c.in_ok-add.ensures.ok
