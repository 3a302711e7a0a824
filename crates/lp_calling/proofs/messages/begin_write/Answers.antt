use Rattle.std.proofs.Common.{◌∙◌, ap}
use Rattle.lp_meaning.specs.ComputingEfuns as meant
use Rattle.lp_meaning.specs.EfunArguments.{arg, opened_args}
use Rattle.lp_calling.proofs.Writing.{write_starts}
use Rattle.lp_calling.proofs.messages.begin_write.Goals as goal

pub returns-clause-starts : goal.returns-clause-starts
returns-clause-starts c = λ caller.
    write_starts caller c.args.live.now c.args.low c.args.stack.now.items c.in_ok-text.text c.requires.low
    (λ s i h. c.in_ok-text.ensures s i h ∙ ap (λ ws. meant.written s.world (arg (opened_args s ws) 0)) c.above.ensures)
