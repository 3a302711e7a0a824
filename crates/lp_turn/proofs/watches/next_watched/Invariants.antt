use Rattle.std.proofs.Common.{◌≡◌, ◌≤◌, length}
use Rattle.lp_timers.specs.Timing.{watch_kind}
use Rattle.lp_turn.specs.TickSteps.{first_such, watched_still}
use Rattle.lp_turn.proofs.watches.next_watched.Given as goal

abbrev pub invariant-loop-o : goal.invariant-loop-o
invariant-loop-o l = record {
  moment : l.due.moment ≡ l.fn.due.moment;
  first : first_such (watched_still l.live (watch_kind l.kind)) l.due.objects ≡ first_such (watched_still l.live (watch_kind l.kind)) l.fn.due.objects;
  fewer : length l.due.objects ≤ length l.fn.due.objects;
}

abbrev pub decreases-loop-o : goal.decreases-loop-o
decreases-loop-o l = length l.due.objects
