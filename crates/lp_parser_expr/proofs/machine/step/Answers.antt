use Rattle.std.proofs.Common.{subst, sym}
use Rattle.std.specs.Prelude.{Ok}
use Rattle.lp_parser_expr.specs.Machine.{step, finished}
use Rattle.lp_parser_expr.specs.Moves.{MovesOn, state_of}
use Rattle.lp_parser_expr.specs.StackView.{stack_of}
use Rattle.lp_parser_expr.proofs.machine.step.Goals as goal

pub returns-in-EndLiteral : goal.returns-in-EndLiteral
returns-in-EndLiteral c =
    let s = stack_of c.args.stack.now in
    subst (λ f. MovesOn (step (state_of f s) c.args.seen) (finished (state_of f s)) s (Ok c.end_literal.result)) (sym c.in-EndLiteral.is) (c.end_literal.ensures s)

pub returns-in-NeedName : goal.returns-in-NeedName
returns-in-NeedName c =
    let s = stack_of c.args.stack.now in
    subst (λ f. MovesOn (step (state_of f s) c.args.seen) (finished (state_of f s)) s (Ok c.need_name.result)) (sym c.in-NeedName.is) (c.need_name.ensures s)
