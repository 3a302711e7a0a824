use Rattle.std.proofs.Common.{sym, subst}
use Rattle.std.specs.Prelude.{Ok}
use Rattle.lp_parser_stmt.specs.Machine.{step}
use Rattle.lp_parser_stmt.specs.Moves.{Steps, label_state}
use Rattle.lp_parser_stmt.specs.StackView.{stack_of}
use Rattle.lp_parser_stmt.specs.View.{switching_of}
use Rattle.lp_parser_stmt.proofs.label.label.Goals as goal

pub returns-in-Minus : goal.returns-in-Minus
returns-in-Minus c =
    let s = stack_of c.args.stack.now in
    subst (λ a. Steps (step (label_state a c.args.line (switching_of c.args.switching) s) c.args.seen) s (Ok c.after_minus.result)) (sym c.in-Minus.is) (c.after_minus.ensures s)
