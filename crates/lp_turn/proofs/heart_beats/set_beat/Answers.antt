use Rattle.std.proofs.Common.{ap}
use Rattle.lp_timers.specs.Timing.{Timing}
use Rattle.lp_turn.proofs.Timed.{closed_same}
use Rattle.lp_turn.proofs.heart_beats.set_beat.Goals as goal

pub returns-clause-closed : goal.returns-clause-closed
returns-clause-closed c = closed_same c.args.live.now c.next_beat.new.self c.requires.closed (ap (λ (t : Timing). t.next) c.next_beat.ensures) (ap (λ (t : Timing). t.call_outs) c.next_beat.ensures)
