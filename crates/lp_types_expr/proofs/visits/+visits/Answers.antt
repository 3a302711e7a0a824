use Rattle.std.proofs.Common.{refl, sym, ap, ◌∙◌, ◌++◌}
use Rattle.lp_tree.specs.Pieces.{end_tree}
use Rattle.lp_tree.specs.TreeView.{tree_of}
use Rattle.lp_tree.proofs.ExprNodes.{range_tree, other_tree, binary_tree, and_then_tree, or_else_tree, cond_tree, assign_tree}
use Rattle.lp_types_expr.specs.Visits.{behinds, visited, visits_end}
use Rattle.lp_types_expr.proofs.Arms.{two_parts, three_lists, three_parts, part_and_list}
use Rattle.lp_types_expr.proofs.visits.+visits.Goals as goal

pub behinds-returns-in_ok-behinds-in-Binary : goal.behinds-returns-in_ok-behinds-in-Binary
behinds-returns-in_ok-behinds-in-Binary t c =
    two_parts c.whole-in-Binary.result c.args.e.now _ (visited c.args.into.now.items) (visited c.behinds-in-Binary.new.into.items) (visited c.whole-in-Binary.new.into.items) c.deref-in-Binary.result.now c.deref-in-Binary-2.result.now c.in-Binary.left.value c.in-Binary.right.value (ap tree_of c.in-Binary.is ∙ binary_tree c.in-Binary.line c.in-Binary.op c.in-Binary.left c.in-Binary.right) refl c.deref-in-Binary.ensures c.deref-in-Binary-2.ensures c.in_ok-behinds-in-Binary.ensures c.whole-in-Binary.ensures

pub behinds-returns-in_ok-behinds-in-AndThen : goal.behinds-returns-in_ok-behinds-in-AndThen
behinds-returns-in_ok-behinds-in-AndThen t c =
    two_parts c.whole-in-AndThen.result c.args.e.now _ (visited c.args.into.now.items) (visited c.behinds-in-AndThen.new.into.items) (visited c.whole-in-AndThen.new.into.items) c.deref-in-AndThen.result.now c.deref-in-AndThen-2.result.now c.in-AndThen.left.value c.in-AndThen.right.value (ap tree_of c.in-AndThen.is ∙ and_then_tree c.in-AndThen.line c.in-AndThen.left c.in-AndThen.right) refl c.deref-in-AndThen.ensures c.deref-in-AndThen-2.ensures c.in_ok-behinds-in-AndThen.ensures c.whole-in-AndThen.ensures

pub behinds-returns-in_ok-behinds-in-OrElse : goal.behinds-returns-in_ok-behinds-in-OrElse
behinds-returns-in_ok-behinds-in-OrElse t c =
    two_parts c.whole-in-OrElse.result c.args.e.now _ (visited c.args.into.now.items) (visited c.behinds-in-OrElse.new.into.items) (visited c.whole-in-OrElse.new.into.items) c.deref-in-OrElse.result.now c.deref-in-OrElse-2.result.now c.in-OrElse.left.value c.in-OrElse.right.value (ap tree_of c.in-OrElse.is ∙ or_else_tree c.in-OrElse.line c.in-OrElse.left c.in-OrElse.right) refl c.deref-in-OrElse.ensures c.deref-in-OrElse-2.ensures c.in_ok-behinds-in-OrElse.ensures c.whole-in-OrElse.ensures

pub behinds-returns-in_ok-behinds-in-Assign : goal.behinds-returns-in_ok-behinds-in-Assign
behinds-returns-in_ok-behinds-in-Assign t c =
    two_parts c.whole-in-Assign.result c.args.e.now _ (visited c.args.into.now.items) (visited c.behinds-in-Assign.new.into.items) (visited c.whole-in-Assign.new.into.items) c.deref-in-Assign.result.now c.deref-in-Assign-2.result.now c.in-Assign.place.value c.in-Assign.value.value (ap tree_of c.in-Assign.is ∙ assign_tree c.in-Assign.line c.in-Assign.op c.in-Assign.place c.in-Assign.value) refl c.deref-in-Assign.ensures c.deref-in-Assign-2.ensures c.in_ok-behinds-in-Assign.ensures c.whole-in-Assign.ensures

pub behinds-returns-in_ok-whole-in-Cond : goal.behinds-returns-in_ok-whole-in-Cond
behinds-returns-in_ok-whole-in-Cond t c =
    three_parts c.whole-in-Cond-2.result c.args.e.now _ (visited c.args.into.now.items) (visited c.behinds-in-Cond.new.into.items) (visited c.whole-in-Cond.new.into.items) (visited c.whole-in-Cond-2.new.into.items) c.deref-in-Cond.result.now c.deref-in-Cond-2.result.now c.deref-in-Cond-3.result.now c.in-Cond.test.value c.in-Cond.yes.value c.in-Cond.no.value (ap tree_of c.in-Cond.is ∙ cond_tree c.in-Cond.line c.in-Cond.test c.in-Cond.yes c.in-Cond.no) refl c.deref-in-Cond.ensures c.deref-in-Cond-2.ensures c.deref-in-Cond-3.ensures c.in_ok-behinds-in-Cond.ensures c.in_ok-whole-in-Cond.ensures c.whole-in-Cond-2.ensures

pub behinds-returns-in_ok-behinds-in-CallOther : goal.behinds-returns-in_ok-behinds-in-CallOther
behinds-returns-in_ok-behinds-in-CallOther t c =
    part_and_list c.each-in-CallOther.result c.args.e.now _ (visited c.args.into.now.items) (visited c.behinds-in-CallOther.new.into.items) (visited c.each-in-CallOther.new.into.items) c.deref-in-CallOther.result.now c.in-CallOther.of.value c.deref-in-CallOther-2.result.now c.in-CallOther.args.items (ap tree_of c.in-CallOther.is ∙ other_tree c.in-CallOther.line c.in-CallOther.of c.in-CallOther.name c.in-CallOther.args) refl c.deref-in-CallOther.ensures c.deref-in-CallOther-2.ensures.value c.in_ok-behinds-in-CallOther.ensures c.each-in-CallOther.ensures

pub behinds-returns-in_ok-end-in-Range : goal.behinds-returns-in_ok-end-in-Range
behinds-returns-in_ok-end-in-Range t c =
    three_lists c.end-in-Range.result c.args.e.now _ (visited c.args.into.now.items) (visited c.behinds-in-Range.new.into.items) (visited c.end.new.into.items) (visited c.end-in-Range.new.into.items) (behinds (tree_of c.deref-in-Range.result.now)) (visits_end (end_tree c.in-Range.from)) (visits_end (end_tree c.in-Range.to)) (ap tree_of c.in-Range.is ∙ range_tree c.in-Range.line c.in-Range.of c.in-Range.from c.in-Range.to) (ap (λ z. behinds (tree_of z) ++ (visits_end (end_tree c.in-Range.from) ++ visits_end (end_tree c.in-Range.to))) (sym c.deref-in-Range.ensures)) c.in_ok-behinds-in-Range.ensures c.in_ok-end-in-Range.ensures c.end-in-Range.ensures
