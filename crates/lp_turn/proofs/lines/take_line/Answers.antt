use Rattle.std.proofs.Common.{ap}
use Rattle.lp_world.specs.Connecting.{Connecting}
use Rattle.lp_turn.proofs.Kept.{closed_waiting}
use Rattle.lp_turn.proofs.lines.take_line.Goals as goal

pub returns-clause-closed : goal.returns-clause-closed
returns-clause-closed c = closed_waiting c.args.live.now c.take_line.new.self c.args.number c.requires.closed (ap (λ (x : Connecting). x.waiting) c.take_line.ensures)
