use Rattle.std.proofs.Common.{[], ap, ◌∙◌}
use Rattle.lp_parser_expr.specs.Levels.{above}
use Rattle.lp_parser_expr.proofs.Stacks.{popped_right, above-push}
use Rattle.lp_parser_expr.proofs.stack.Stack.pop.Goals as goal

pub invariant_of-self : goal.invariant_of-self
invariant_of-self c = record { right = popped_right c.pop.result _ _ c.pop.ensures.items c.args.self.now.right }

pub returns-in-Some-clause-some : goal.returns-in-Some-clause-some
returns-in-Some-clause-some c = ap (above []) c.in-Some.ensures.items ∙ above-push [] c.pop.new.self.items c.in-Some.open
