use Rattle.std.specs.Prelude.{is_ok}
use Rattle.lp_parser_stmt.specs.Machine.{InFunction}
use Rattle.lp_parser_stmt.specs.View.{stmts_of}
use Rattle.lp_parser_stmt.proofs.Stacks.{pushed_right, pushed_view}
use Rattle.lp_parser_stmt.proofs.stack.Stack.push.Goals as goal

pub invariant_of-self : goal.invariant_of-self
invariant_of-self c = record { right = pushed_right (is_ok c.push.result) (stmts_of c.args.self.now.done) _ _ c.opened-open.result c.args.frame c.push.ensures.items c.opened-open.ensures.frame c.args.self.now.right c.opened-open.ensures.right }

pub returns-clause-ok : goal.returns-clause-ok
returns-clause-ok c = pushed_view (InFunction (stmts_of c.args.self.now.done)) _ _ c.opened-open.result c.args.frame c.in_ok-push.ensures.items c.opened-open.ensures.frame
