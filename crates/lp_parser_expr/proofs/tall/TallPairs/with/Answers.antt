use Rattle.std.proofs.Common.{arith, ap}
use Rattle.lp_tree.specs.Trees.{height}
use Rattle.lp_tree.specs.TreeView.{tree_of}
use Rattle.lp_parser_expr.proofs.Lists.{pushed_pair}
use Rattle.lp_parser_expr.proofs.tall.TallPairs.with.Goals as goal

pub invariant_of-result : goal.invariant_of-result
invariant_of-result c = record { right = omega (arith, c.args.self.right, c.args.key.right, c.args.value.right, ap (λ e. height (tree_of e)) c.into_inner-first.ensures, ap (λ e. height (tree_of e)) c.into_inner-second.ensures, pushed_pair _ _ _ _ c.in_ok-push.ensures.items) }
