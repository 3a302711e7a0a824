use Rattle.std.proofs.Common.{subst, sym}
use Rattle.std.specs.Prelude.{Ok}
use Rattle.lp_parser_stmt.specs.Machine.{step}
use Rattle.lp_parser_stmt.specs.Moves.{Steps, state_of}
use Rattle.lp_parser_stmt.specs.StackView.{stack_of}
use Rattle.lp_parser_stmt.proofs.machine.step.Goals as goal

pub returns-in-Awaits : goal.returns-in-Awaits
returns-in-Awaits c =
    let s = stack_of c.args.stack.now in
    subst (λ f. Steps (step (state_of f s) c.args.seen) s (Ok c.awaited.result)) (sym c.in-Awaits.is) (c.awaited.ensures s)

pub returns-in-EndStmt : goal.returns-in-EndStmt
returns-in-EndStmt c =
    let s = stack_of c.args.stack.now in
    subst (λ f. Steps (step (state_of f s) c.args.seen) s (Ok c.end_stmt.result)) (sym c.in-EndStmt.is) (c.end_stmt.ensures s)

pub returns-in-Opens : goal.returns-in-Opens
returns-in-Opens c =
    let s = stack_of c.args.stack.now in
    subst (λ f. Steps (step (state_of f s) c.args.seen) s (Ok c.open_paren.result)) (sym c.in-Opens.is) (c.open_paren.ensures s)

pub returns-in-Declaring : goal.returns-in-Declaring
returns-in-Declaring c =
    let s = stack_of c.args.stack.now in
    subst (λ f. Steps (step (state_of f s) c.args.seen) s c.declaring.result) (sym c.in-Declaring.is) (c.declaring.ensures s)

pub returns-in-Variable : goal.returns-in-Variable
returns-in-Variable c =
    let s = stack_of c.args.stack.now in
    subst (λ f. Steps (step (state_of f s) c.args.seen) s c.variable.result) (sym c.in-Variable.is) (c.variable.ensures s)
