use Rattle.std.proofs.Common.{subst}
use Rattle.lp_parser_stmt.specs.Machine.{class_begins}
use Rattle.lp_parser_stmt.specs.Moves.{Steps}
use Rattle.lp_parser_stmt.specs.StackView.{stack_of}
use Rattle.lp_parser_stmt.proofs.begin.begin.Goals as goal

pub returns : goal.returns
returns c = subst (λ k. Steps (class_begins k c.args.seen (stack_of c.args.stack.now)) (stack_of c.begin_class.new.stack) c.begin_class.result) c.class_of-class.ensures c.begin_class.ensures
