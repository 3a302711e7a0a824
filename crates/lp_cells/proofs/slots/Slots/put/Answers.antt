use Rattle.std.proofs.Common.{ap, is_some, not, sym, ◌∙◌}
use Rattle.std.specs.Map.{lookup}
use Rattle.indexmap.specs.IndexMap.{insert_entry}
use Rattle.lp_values.specs.Read.{value_eq}
use Rattle.lp_cells.proofs.SlotLemmas.{absent_indexed, insert_absent, known_indexed, write_filled, write_indexed}
use Rattle.lp_cells.proofs.slots.Slots.put.Goals as goal

pub invariant_of-self : goal.invariant_of-self
invariant_of-self c = write_indexed c.self.inside.places.entries c.self.inside.slots.items c.args.key c.args.v c.in-Some.s c.index_mut.result.now c.write_value.new.slot c.self.invariant (sym c.place_of.ensures ∙ c.in-Some.is) c.index_mut.ensures.value c.write_value.ensures

pub returns-in-Some-clause-ok : goal.returns-in-Some-clause-ok
returns-in-Some-clause-ok c = write_filled c.self.inside.places.entries c.self.inside.slots.items c.args.key c.args.v c.in-Some.s c.index_mut.result.now c.write_value.new.slot c.self.invariant (sym c.place_of.ensures ∙ c.in-Some.is) c.index_mut.ensures.value c.write_value.ensures ∙ ap (λ ps. insert_entry value_eq ps c.args.key c.args.v) c.self.view_is

pub returns-in-Some-clause-is_new : goal.returns-in-Some-clause-is_new
returns-in-Some-clause-is_new c = sym (ap not (ap (λ ps. is_some (lookup (value_eq c.args.key) ps)) (sym c.self.view_is) ∙ known_indexed c.self.inside.places.entries c.self.inside.slots.items c.args.key c.in-Some.s c.self.invariant (sym c.place_of.ensures ∙ c.in-Some.is)))

pub returns-in_ok-put_last-in-None-clause-ok : goal.returns-in_ok-put_last-in-None-clause-ok
returns-in_ok-put_last-in-None-clause-ok c = c.in_ok-put_last-in-None.ensures.ok ∙ sym (insert_absent _ c.args.key c.args.v (absent_indexed c.self.inside.places.entries c.self.inside.slots.items c.args.key c.self.invariant (sym c.place_of.ensures ∙ c.in-None.is))) ∙ ap (λ ps. insert_entry value_eq ps c.args.key c.args.v) c.self.view_is

pub returns-in_ok-put_last-in-None-clause-is_new : goal.returns-in_ok-put_last-in-None-clause-is_new
returns-in_ok-put_last-in-None-clause-is_new c = sym (ap (λ o. not (is_some o)) (ap (lookup (value_eq c.args.key)) (sym c.self.view_is) ∙ absent_indexed c.self.inside.places.entries c.self.inside.slots.items c.args.key c.self.invariant (sym c.place_of.ensures ∙ c.in-None.is)))
