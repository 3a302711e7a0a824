use Rattle.std.proofs.Common.{ap, sym, ◌∙◌}
use Rattle.std.specs.Map.{lookup}
use Rattle.lp_values.specs.Read.{value_eq}
use Rattle.lp_cells.proofs.SlotLemmas.{absent_indexed, find_indexed}
use Rattle.lp_cells.proofs.slots.Slots.find.Goals as goal

pub returns-in-Some : goal.returns-in-Some
returns-in-Some c = c.value_in.ensures ∙ find_indexed c.self.inside.places.entries c.self.inside.slots.items c.args.key.now c.in-Some.s c.index.result.now c.self.invariant (sym c.place_of.ensures ∙ c.in-Some.is) c.index.ensures ∙ ap (lookup (value_eq c.args.key.now)) c.self.view_is

pub returns-in-None : goal.returns-in-None
returns-in-None c = sym (absent_indexed c.self.inside.places.entries c.self.inside.slots.items c.args.key.now c.self.invariant (sym c.place_of.ensures ∙ c.in-None.is)) ∙ ap (lookup (value_eq c.args.key.now)) c.self.view_is
