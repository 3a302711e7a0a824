use Rattle.std.proofs.Common.{◌≡◌, ◌+◌, true, false, refl, sym, ◌∙◌, arith}
use Rattle.lp_cells.specs.Mapping.{is_object, objects_in}
use Rattle.lp_cells.proofs.ObjectLemmas.{count_removed}
use Rattle.lp_cells.proofs.pairs.Pairs.remove.Goals as goal

pub overflow_sub-self : goal.overflow_sub-self
overflow_sub-self c =
    let e : objects_in c.remove-was_stored.new.self + 1 ≡ c.self.inside.objects = count_removed _ c.self.inside.slots _ c.args.key.now true true c.self.invariant (sym c.if-was_stored.true ∙ c.remove-was_stored.ensures.found) c.remove-was_stored.ensures.after (sym c.if-is_object.true ∙ c.is_object.ensures) in
    omega arith

pub invariant_of-self : goal.invariant_of-self
invariant_of-self c =
    let e : objects_in c.remove-was_stored.new.self + 1 ≡ c.self.inside.objects = count_removed _ c.self.inside.slots _ c.args.key.now true true c.self.invariant (sym c.if-was_stored.true ∙ c.remove-was_stored.ensures.found) c.remove-was_stored.ensures.after (sym c.if-is_object.true ∙ c.is_object.ensures) in
    omega arith

pub invariant_of-self-else-is_object : goal.invariant_of-self-else-is_object
invariant_of-self-else-is_object c =
    let e : objects_in c.remove-was_stored.new.self + 0 ≡ c.self.inside.objects = count_removed _ c.self.inside.slots _ c.args.key.now true false c.self.invariant (sym c.if-was_stored.true ∙ c.remove-was_stored.ensures.found) c.remove-was_stored.ensures.after (sym c.if-is_object.false ∙ c.is_object.ensures) in
    omega arith

pub invariant_of-self-else-was_stored : goal.invariant_of-self-else-was_stored
invariant_of-self-else-was_stored c =
    let e : objects_in c.remove-was_stored.new.self + 0 ≡ c.self.inside.objects = count_removed _ c.self.inside.slots _ c.args.key.now false (is_object c.args.key.now) c.self.invariant (sym c.if-was_stored.false ∙ c.remove-was_stored.ensures.found) c.remove-was_stored.ensures.after refl in
    omega arith
