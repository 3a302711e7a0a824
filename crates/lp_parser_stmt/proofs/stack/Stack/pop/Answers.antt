use Rattle.std.proofs.Common.{ap, ◌∙◌}
use Rattle.lp_parser_stmt.specs.Machine.{InFunction}
use Rattle.lp_parser_stmt.specs.StackView.{above}
use Rattle.lp_parser_stmt.specs.View.{stmts_of}
use Rattle.lp_parser_stmt.proofs.Stacks.{popped_right, above-push}
use Rattle.lp_parser_stmt.proofs.stack.Stack.pop.Goals as goal

pub invariant_of-self : goal.invariant_of-self
invariant_of-self c = record { right = popped_right c.pop.result _ _ c.pop.ensures.items c.args.self.now.right }

pub returns-in-Some-clause-some : goal.returns-in-Some-clause-some
returns-in-Some-clause-some c =
    let s = InFunction (stmts_of c.args.self.now.done) in
    ap (above s) c.in-Some.ensures.items ∙ above-push s c.pop.new.self.items c.in-Some.open
