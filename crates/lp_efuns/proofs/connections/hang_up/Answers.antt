use Rattle.lp_efuns.proofs.Connected.{closed_connections}
use Rattle.lp_efuns.proofs.connections.hang_up.Goals as goal

pub returns-in_ok-push-in-Some-clause-closed : goal.returns-in_ok-push-in-Some-clause-closed
returns-in_ok-push-in-Some-clause-closed c = closed_connections c.args.live.now c.push.new.self c.close.new.self c.in-Some.number c.requires.closed c.close.ensures
