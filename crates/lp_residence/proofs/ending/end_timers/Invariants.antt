use Rattle.std.proofs.Common.{◌≡◌, length}
use Rattle.lp_timers.specs.Timers.{call_outs_without}
use Rattle.lp_world.specs.Closed.{AreNumberedOnce}
use Rattle.lp_residence.proofs.ending.end_timers.Given as goal

abbrev pub invariant-loop : goal.invariant-loop
invariant-loop l = record {
  next : l.timers.next ≡ l.fn.timers.next;
  beats : l.timers.beats ≡ l.fn.timers.beats;
  watches : l.timers.watches ≡ l.fn.timers.watches;
  once : AreNumberedOnce l.timers.call_outs;
  others : call_outs_without l.timers.call_outs l.ob ≡ call_outs_without l.fn.timers.call_outs l.ob;
}

abbrev pub decreases-loop : goal.decreases-loop
decreases-loop l = length l.timers.call_outs
