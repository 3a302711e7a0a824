use Rattle.lp_calling.proofs.Telling.{closed_told}
use Rattle.lp_commanding.proofs.telling.put_out.Goals as goal

pub returns-clause-closed : goal.returns-clause-closed
returns-clause-closed c = closed_told c.args.live.now c.push.new.self c.requires.closed
