use Rattle.std.proofs.Common.{ap, refl}
use Rattle.lp_timers.specs.Timing.{Timing, watch_kind}
use Rattle.lp_turn.proofs.Timed.{closed_same}
use Rattle.lp_turn.proofs.Watched.{set_watch_is}
use Rattle.lp_turn.proofs.watches.set_watch.Goals as goal

pub returns-in_err-watch-clause-closed : goal.returns-in_err-watch-clause-closed
returns-in_err-watch-clause-closed c = closed_same c.args.live.now c.watch.new.self c.requires.closed (ap (λ (t : Timing). t.next) c.in_err-watch.ensures.err) (ap (λ (t : Timing). t.call_outs) c.in_err-watch.ensures.err)

pub returns-clause-set : goal.returns-clause-set
returns-clause-set c = set_watch_is c.args.live.now (record c.args.live.now { timers = c.watch.new.self }) c.watch.new.self (watch_kind c.args.kind) c.args.o c.args.at c.requires.watched refl c.in_ok-watch.ensures.ok

pub returns-clause-closed : goal.returns-clause-closed
returns-clause-closed c = closed_same c.args.live.now c.watch.new.self c.requires.closed (ap (λ (t : Timing). t.next) c.in_ok-watch.ensures.ok) (ap (λ (t : Timing). t.call_outs) c.in_ok-watch.ensures.ok)
