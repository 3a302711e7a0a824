use Rattle.std.proofs.Common.{ap}
use Rattle.lp_world.specs.Connecting.{Connecting}
use Rattle.lp_turn.proofs.Kept.{closed_waiting}
use Rattle.lp_turn.proofs.connecting.close.Goals as goal

pub returns-clause-closed : goal.returns-clause-closed
returns-clause-closed c = closed_waiting c.args.live.now c.close.new.self c.args.number c.requires.closed (ap (λ (x : Connecting). x.waiting) c.close.ensures)
