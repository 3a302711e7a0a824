use Rattle.std.proofs.Common.{◌∙◌, ap, map}
use Rattle.lp_ops.specs.Operands.{operand}
use Rattle.lp_meaning.specs.EfunArguments.{text_arg}
use Rattle.lp_calling.proofs.Audiences.{say_starts}
use Rattle.lp_calling.proofs.audience.begin_say.Goals as goal

pub returns-clause-starts : goal.returns-clause-starts
returns-clause-starts c =
    say_starts c.args.caller.now c.args.live.now c.args.low c.args.stack.now.items c.in_ok-text.text c.requires.low (λ l cells. c.in_ok-text.ensures l cells ∙ ap (λ ws. text_arg (map (operand l cells) ws) 0) c.above.ensures)
