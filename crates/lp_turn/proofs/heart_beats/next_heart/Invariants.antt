use Rattle.std.proofs.Common.{◌≡◌, ◌≤◌, length}
use Rattle.lp_turn.specs.TickSteps.{beats_still, first_such}
use Rattle.lp_turn.proofs.heart_beats.next_heart.Given as goal

abbrev pub invariant-loop-o : goal.invariant-loop-o
invariant-loop-o l = record {
  moment : l.due.moment ≡ l.fn.due.moment;
  first : first_such (beats_still l.live l.fn.due.moment) l.due.objects ≡ first_such (beats_still l.live l.fn.due.moment) l.fn.due.objects;
  fewer : length l.due.objects ≤ length l.fn.due.objects;
}

abbrev pub decreases-loop-o : goal.decreases-loop-o
decreases-loop-o l = length l.due.objects
