use Rattle.std.proofs.Common.{ap}
use Rattle.lp_timers.specs.Timing.{Timing}
use Rattle.lp_turn.proofs.Timed.{closed_same}
use Rattle.lp_turn.proofs.heart_beats.end_beat.Goals as goal

pub returns-clause-closed : goal.returns-clause-closed
returns-clause-closed c = closed_same c.args.live.now c.beat.new.self c.requires.closed (ap (λ (t : Timing). t.next) c.in_ok-beat.ensures.ok.1) (ap (λ (t : Timing). t.call_outs) c.in_ok-beat.ensures.ok.1)

pub returns-in_err-beat-clause-closed : goal.returns-in_err-beat-clause-closed
returns-in_err-beat-clause-closed c = closed_same c.args.live.now c.beat.new.self c.requires.closed (ap (λ (t : Timing). t.next) c.in_err-beat.ensures.err) (ap (λ (t : Timing). t.call_outs) c.in_err-beat.ensures.err)
