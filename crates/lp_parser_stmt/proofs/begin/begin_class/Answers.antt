use Rattle.std.proofs.Common.{subst, sym}
use Rattle.lp_parser_stmt.specs.Machine.{class_begins}
use Rattle.lp_parser_stmt.specs.Moves.{Steps}
use Rattle.lp_parser_stmt.specs.StackView.{stack_of}
use Rattle.lp_parser_stmt.proofs.begin.begin_class.Goals as goal

pub returns-in-ExpressionBegins : goal.returns-in-ExpressionBegins
returns-in-ExpressionBegins c =
    let s = stack_of c.args.stack.now in
    subst (λ k. Steps (class_begins k c.args.seen s) s c.begin_expression.result) (sym c.in-ExpressionBegins.is) (c.begin_expression.ensures s)
