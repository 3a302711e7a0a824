use Rattle.std.proofs.Common.{◌≡◌, ◌++◌, drop, map}
use Rattle.lp_tree.specs.Pieces.{pair_of}
use Rattle.lp_tree.specs.Trees.{pairs, trees}
use Rattle.lp_tree.specs.TreeView.{tree_of}
use Rattle.lp_types_expr.specs.Visits.{visited, visits_all, visits_pairs}
use Rattle.lp_types_expr.proofs.visits.+visits.Given as goal

abbrev pub invariant-each-loop-e : goal.invariant-each-loop-e
invariant-each-loop-e l = visited l.initial.into.items ++ visits_all (trees (map tree_of l.all)) ≡ visited l.into.items ++ visits_all (trees (map tree_of (drop l.e-index l.all)))

abbrev pub invariant-each_pair-loop-one : goal.invariant-each_pair-loop-one
invariant-each_pair-loop-one l = visited l.initial.into.items ++ visits_pairs (pairs (map pair_of l.all)) ≡ visited l.into.items ++ visits_pairs (pairs (map pair_of (drop l.one-index l.all)))

abbrev pub invariant-others-loop-i : goal.invariant-others-loop-i
invariant-others-loop-i l = visited l.initial.into.items ++ visits_all (trees (map tree_of (drop 1 l.all))) ≡ visited l.into.items ++ visits_all (trees (map tree_of (drop l.i l.all)))
