use Rattle.std.proofs.Common.{◌∙◌, ap, map}
use Rattle.lp_ops.specs.Operands.{operand}
use Rattle.lp_meaning.specs.EfunArguments.{text_arg}
use Rattle.lp_efuns.proofs.Enabled.{row_there}
use Rattle.lp_calling.proofs.Calling.{call_starts}
use Rattle.lp_calling.proofs.call.begin_live.Goals as goal

pub returns-clause-starts : goal.returns-clause-starts
returns-clause-starts c = λ caller.
    call_starts caller c.args.live.now c.args.low c.args.stack.now.items c.args.o c.in_ok-name.name c.requires.low c.requires.target
    (λ l cells. c.in_ok-name.ensures l cells ∙ ap (λ ws. text_arg (map (operand l cells) ws) 1) c.above.ensures)

pub returns-clause-ready : goal.returns-clause-ready
returns-clause-ready c = row_there c.args.live.now.objects c.args.o c.requires.live
