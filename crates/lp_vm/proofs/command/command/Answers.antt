use Rattle.lp_vm.proofs.command.command.Goals as goal

pub obey-requires-clause-can : goal.obey-requires-clause-can
obey-requires-clause-can g c = record { front = c.law_there_is_one.ensures.0; real = c.law_there_is_one.ensures.1; can = c.requires.can }
