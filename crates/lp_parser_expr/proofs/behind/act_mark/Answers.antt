use Rattle.std.proofs.Common.{subst, sym}
use Rattle.lp_tree.specs.TreeView.{tree_of}
use Rattle.lp_parser_expr.specs.Machine.{act_mark}
use Rattle.lp_parser_expr.specs.Moves.{Acts}
use Rattle.lp_parser_expr.specs.StackView.{stack_of}
use Rattle.lp_parser_expr.proofs.behind.act_mark.Goals as goal

pub returns-in-Step : goal.returns-in-Step
returns-in-Step c =
    let s = stack_of c.args.stack.now in
    let t = tree_of c.args.tree.expr.value in
    subst (λ m. Acts (act_mark m t s) t s s c.stepped.result) (sym c.in-Step.is) (c.stepped.ensures s)

pub returns-in-ColonColon : goal.returns-in-ColonColon
returns-in-ColonColon c =
    let s = stack_of c.args.stack.now in
    let t = tree_of c.args.tree.expr.value in
    subst (λ m. Acts (act_mark m t s) t s s c.scoped.result) (sym c.in-ColonColon.is) (c.scoped.ensures s)
