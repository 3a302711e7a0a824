use Rattle.lp_step.proofs.Led.{sizes_yielded}
use Rattle.lp_step.proofs.binaries.act.Goals as goal

pub returns-in-Ok-clause-sizes : goal.returns-in-Ok-clause-sizes
returns-in-Ok-clause-sizes g c = λ whole p. sizes_yielded _ c.args.cells.now c.binary.new.cells _ c.in-Ok.v c.in-Ok.ensures.value (c.in-Ok.ensures.closed c.requires.closed).1 whole p
