use Rattle.lp_tree.specs.TreeView.{tree_of}
use Rattle.lp_types_expr.specs.Scopes.{visible}
use Rattle.lp_types_expr.specs.Surroundings.{around_of}
use Rattle.lp_types_expr.proofs.Assigned.{of_parts}
use Rattle.lp_types_expr.proofs.assign.assignments.Goals as goal

pub returns : goal.returns
returns c = of_parts c.part_misfits.result (around_of c.args.around.now) (visible c.args.scopes.now) (tree_of c.args.e.now) c.args.line c.args.faults.now.items c.part_misfits.new.faults.items c.new-parts.result.items c.visits.new.into.items c.as_slice.result.now c.new-parts.ensures.items c.in_ok-visits.ensures c.as_slice.ensures.value c.part_misfits.ensures
