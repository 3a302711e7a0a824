use Rattle.lp_efuns.proofs.Enabled.{enabled_closed, enabled_keeps, row_there}
use Rattle.lp_efuns.proofs.enabling.enable.Goals as goal

pub set_living-requires : goal.set_living-requires
set_living-requires c = row_there c.args.live.now.objects c.args.this c.requires.lives

pub returns-clause-closed : goal.returns-clause-closed
returns-clause-closed c = enabled_closed c.args.live.now c.args.this c.set_living.new.self c.requires.closed c.requires.lives c.set_living.ensures

pub returns-clause-variables : goal.returns-clause-variables
returns-clause-variables c = enabled_keeps c.args.live.now.objects c.set_living.new.self c.args.this c.requires.lives c.set_living.ensures
