use Rattle.std.proofs.Common.{◌≡◌, take}
use Rattle.lp_sessions.specs.All.{TakesOuts, numbers}
use Rattle.lp_sessions.specs.Index.{IsIndex}
use Rattle.lp_sessions.proofs.each.take_each.Given as goal

abbrev pub invariant-loop-out : goal.invariant-loop-out
invariant-loop-out l = record {
  taken : TakesOuts (take l.out-index l.outs) l.fn.sessions.items l.sessions.items;
  numbers : numbers l.sessions.items ≡ numbers l.fn.sessions.items;
  index : IsIndex l.listed.items l.sessions.items;
}
