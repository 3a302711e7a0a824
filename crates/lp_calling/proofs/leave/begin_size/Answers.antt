use Rattle.std.proofs.Common.{◌∙◌, ap, drop, map}
use Rattle.lp_ops.specs.Operands.{operand}
use Rattle.lp_meaning.specs.EfunArguments.{text_arg}
use Rattle.lp_calling.proofs.Leaving.{size_means}
use Rattle.lp_calling.proofs.leave.begin_size.Goals as goal

pub begin_deed-requires-clause-deed : goal.begin_deed-requires-clause-deed
begin_deed-requires-clause-deed c =
    size_means c.args.caller.now c.in_ok-path.path (drop c.args.low c.args.stack.now.items) (λ l cells. c.in_ok-path.ensures l cells ∙ ap (λ ws. text_arg (map (operand l cells) ws) 0) c.above.ensures)
