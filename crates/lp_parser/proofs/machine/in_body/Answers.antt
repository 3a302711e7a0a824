use Rattle.lp_parser_stmt.specs.Machine.{step}
use Rattle.lp_parser_stmt.specs.Moves.{state_of as stmt_state}
use Rattle.lp_parser_stmt.specs.StackView.{stack_of}
use Rattle.lp_parser.specs.View.{before_of, head_of}
use Rattle.lp_parser.proofs.Steps.{in_body_goes, in_body_over, in_body_none}
use Rattle.lp_parser.proofs.machine.in_body.Goals as goal

pub returns-in-Goes : goal.returns-in-Goes
returns-in-Goes c =
    in_body_goes (before_of c.args.before.now) (head_of c.args.header.head) c.args.header.params.items c.args.line (step (stmt_state c.args.focus (stack_of c.args.stack)) c.args.seen) (stack_of c.step.new.stack) c.in_ok-next.field-0 c.in-Goes.next
    c.in_ok-next.ensures c.in-Goes.is

pub returns-in-Over : goal.returns-in-Over
returns-in-Over c =
    in_body_over (before_of c.args.before.now) (before_of c.end_body.new.before) (head_of c.args.header.head) c.args.header.params.items c.args.line (step (stmt_state c.args.focus (stack_of c.args.stack)) c.args.seen) (stack_of c.step.new.stack)
    c.in_ok-next.field-0 c.in-Over.stmts c.end_body.result c.in_ok-next.ensures c.in-Over.is c.end_body.ensures

pub returns-in-Refuses : goal.returns-in-Refuses
returns-in-Refuses c =
    in_body_none (before_of c.args.before.now) (head_of c.args.header.head) c.args.header.params.items c.args.line (step (stmt_state c.args.focus (stack_of c.args.stack)) c.args.seen) (stack_of c.step.new.stack) c.in_ok-next.field-0
    c.in_ok-next.ensures c.in-Refuses.is
