use Rattle.std.proofs.Common.{subst}
use Rattle.lp_parser_stmt.specs.Machine.{maybe}
use Rattle.lp_parser_stmt.specs.Moves.{Steps}
use Rattle.lp_parser_stmt.specs.StackView.{stack_of}
use Rattle.lp_parser_stmt.specs.View.{optional_of}
use Rattle.lp_parser_stmt.proofs.expression.maybe.Goals as goal

pub returns : goal.returns
returns c = subst (λ k. Steps (maybe k c.args.seen (optional_of c.args.part) (stack_of c.args.stack.now)) (stack_of c.maybe_class.new.stack) c.maybe_class.result) c.class_of-class.ensures c.maybe_class.ensures
