use Rattle.std.proofs.Common.{◌∙◌, ap, drop, map}
use Rattle.lp_ops.specs.Operands.{operand}
use Rattle.lp_meaning.specs.EfunArguments.{text_arg}
use Rattle.lp_calling.proofs.Leaving.{append_means}
use Rattle.lp_calling.proofs.leave.begin_append.Goals as goal

pub begin_deed-requires-clause-deed : goal.begin_deed-requires-clause-deed
begin_deed-requires-clause-deed c =
    append_means c.args.caller.now c.in_ok-path.path c.in_ok-text.text (drop c.args.low c.args.stack.now.items)
    (λ l cells. c.in_ok-path.ensures l cells ∙ ap (λ ws. text_arg (map (operand l cells) ws) 0) c.above.ensures)
    (λ l cells. c.in_ok-text.ensures l cells ∙ ap (λ ws. text_arg (map (operand l cells) ws) 1) c.above-2.ensures)
