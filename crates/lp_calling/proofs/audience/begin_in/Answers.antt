use Rattle.std.proofs.Common.{◌∙◌, ap, map}
use Rattle.lp_ops.specs.Operands.{operand}
use Rattle.lp_meaning.specs.EfunArguments.{text_arg}
use Rattle.lp_calling.proofs.Audiences.{room_starts}
use Rattle.lp_calling.proofs.audience.begin_in.Goals as goal

pub returns-clause-starts : goal.returns-clause-starts
returns-clause-starts c = λ caller.
    room_starts caller c.args.live.now c.args.low c.args.stack.now.items c.args.place c.in_ok-text.text c.in_ok-audience.audience c.requires.low c.requires.place
    (λ l cells. c.in_ok-text.ensures l cells ∙ ap (λ ws. text_arg (map (operand l cells) ws) 1) c.above.ensures) c.in_ok-audience.ensures
