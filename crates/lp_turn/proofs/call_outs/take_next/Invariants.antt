use Rattle.std.proofs.Common.{◌≡◌, ◌≤◌, length}
use Rattle.lp_turn.specs.TickSteps.{first_waiting}
use Rattle.lp_turn.proofs.call_outs.take_next.Given as goal

abbrev pub invariant-loop-number : goal.invariant-loop-number
invariant-loop-number l = record {
  same : l.timers ≡ l.fn.timers;
  first : first_waiting l.fn.timers.call_outs l.numbers ≡ first_waiting l.fn.timers.call_outs l.fn.numbers;
  fewer : length l.numbers ≤ length l.fn.numbers;
}

abbrev pub decreases-loop-number : goal.decreases-loop-number
decreases-loop-number l = length l.numbers
