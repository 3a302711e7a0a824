use Rattle.lp_calling.proofs.moving.is_made.Goals as goal

pub returns-clause-is : goal.returns-clause-is
returns-clause-is c = c.may_init.ensures.is
