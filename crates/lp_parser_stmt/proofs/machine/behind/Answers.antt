use Rattle.std.proofs.Common.{◌∙◌, ap, subst, sym}
use Rattle.lp_tree.specs.StatementView.{stmt_of}
use Rattle.lp_parser_stmt.specs.Machine.{act_held, settle}
use Rattle.lp_parser_stmt.specs.Moves.{Steps}
use Rattle.lp_parser_stmt.specs.StackView.{stack_of}
use Rattle.lp_parser_stmt.proofs.machine.behind.Goals as goal

pub returns : goal.returns
returns c =
    subst (λ h. Steps (act_held c.args.seen h) (stack_of c.act.new.stack) c.act.result)
    (sym (ap (λ b. settle b (stmt_of c.args.stmt.value) (stack_of c.args.stack.now)) (sym c.is_else.ensures) ∙ c.in_ok-whole.ensures))
    c.act.ensures
