use Rattle.std.proofs.Common.{◌≤◌, ◌-◌, length}
use Rattle.lp_sessions.specs.Index.{IsIndex}
use Rattle.lp_sessions.proofs.each.forget_idle.Given as goal

abbrev pub invariant-loop-behind : goal.invariant-loop-behind
invariant-loop-behind l = record {
  index : IsIndex l.listed.items l.sessions;
  long : l.count - l.behind ≤ length l.listed.items;
}
