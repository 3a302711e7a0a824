use Rattle.lp_calling.proofs.messages.tell_out.Goals as goal

pub returns-clause-asked : goal.returns-clause-asked
returns-clause-asked c = c.end_zero.ensures.asked _
