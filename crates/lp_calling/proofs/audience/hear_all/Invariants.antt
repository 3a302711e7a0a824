use Rattle.std.proofs.Common.{◌≡◌, ◌-◌, ◌≤◌, length}
use Rattle.lp_world.specs.Closed.{IsClosed}
use Rattle.lp_calling.specs.Audiences.{AreDone}
use Rattle.lp_calling.proofs.audience.hear_all.Given as goal

abbrev pub invariant-loop-n : goal.invariant-loop-n
invariant-loop-n l = record {
  done : AreDone l.audience l.fn.live l.live l.n;
  more : l.audience.done ≤ l.n;
  closed : IsClosed l.live;
  same : l.live ≡ record l.fn.live { outputs = l.live.outputs };
}

abbrev pub decreases-loop-n : goal.decreases-loop-n
decreases-loop-n l = length l.audience.listeners.items - l.n
