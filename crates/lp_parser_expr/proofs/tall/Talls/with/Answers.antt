use Rattle.std.proofs.Common.{arith, ap}
use Rattle.lp_tree.specs.Trees.{height}
use Rattle.lp_tree.specs.TreeView.{tree_of}
use Rattle.lp_parser_expr.proofs.Lists.{pushed_tallest}
use Rattle.lp_parser_expr.proofs.tall.Talls.with.Goals as goal

pub invariant_of-result : goal.invariant_of-result
invariant_of-result c = record { right = omega (arith, c.args.self.right, c.args.tree.right, ap (λ e. height (tree_of e)) c.into_inner-one.ensures, pushed_tallest _ _ _ c.in_ok-push.ensures.items) }
