use Rattle.std.proofs.Common.{subst}
use Rattle.lp_cells.specs.Mapping.{HasDistinctKeys}
use Rattle.lp_cells.proofs.SlotLemmas.{apart_indexed, distinct_filled}
use Rattle.lp_cells.proofs.slots.Slots.len.Goals as goal

pub returns-clause-unique : goal.returns-clause-unique
returns-clause-unique c = subst HasDistinctKeys c.self.view_is (distinct_filled c.self.inside.slots.items (apart_indexed c.self.inside.places.entries c.self.inside.slots.items c.self.invariant))
