use Rattle.std.proofs.Common.{◌≡◌, ◌+◌, ◌≤◌, true, false, sym, ◌∙◌, arith, length}
use Rattle.lp_cells.specs.Mapping.{objects_in}
use Rattle.lp_cells.proofs.ObjectLemmas.{count_inserted, objects_within}
use Rattle.lp_cells.proofs.pairs.Pairs.put.Goals as goal

pub invariant_of-self-then-counts : goal.invariant_of-self-then-counts
invariant_of-self-then-counts c = count_inserted _ c.self.inside.slots _ c.args.key c.args.v true true c.self.invariant (sym c.if-is_new.true ∙ c.in_ok-is_new.ensures.is_new) c.in_ok-is_new.ensures.ok (sym c.if-counts.true ∙ c.is_object-counts.ensures)

pub invariant_of-self-else-counts : goal.invariant_of-self-else-counts
invariant_of-self-else-counts c =
    let e : c.self.inside.objects + 0 ≡ objects_in c.put.new.self = count_inserted _ c.self.inside.slots _ c.args.key c.args.v true false c.self.invariant (sym c.if-is_new.true ∙ c.in_ok-is_new.ensures.is_new) c.in_ok-is_new.ensures.ok (sym c.if-counts.false ∙ c.is_object-counts.ensures) in
    omega arith

pub invariant_of-self-else-is_new : goal.invariant_of-self-else-is_new
invariant_of-self-else-is_new c =
    let e : c.self.inside.objects + 0 ≡ objects_in c.put.new.self = count_inserted _ c.self.inside.slots _ c.args.key c.args.v false c.is_object-counts.result c.self.invariant (sym c.if-is_new.false ∙ c.in_ok-is_new.ensures.is_new) c.in_ok-is_new.ensures.ok c.is_object-counts.ensures in
    omega arith

pub overflow_add-self : goal.overflow_add-self
overflow_add-self c =
    let within : objects_in c.self.inside.slots ≤ length c.self.inside.slots = objects_within c.self.inside.slots in
    omega arith
