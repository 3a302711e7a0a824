use Rattle.std.proofs.Common.{◌+◌, ◌-◌, ◌≡◌, ◌≤◌, length, take}
use Rattle.lp_io.specs.Told.{before_giving}
use Rattle.lp_script.proofs.taking.take_all.Given as goal

abbrev pub invariant-loop-filled : goal.invariant-loop-filled
invariant-loop-filled g l = record {
  within : l.filled ≤ length l.taken.items;
  most : length l.taken.items ≤ 67108865;
  so_far : before_giving (take l.filled l.taken.items) (g.S.Source.remaining l.input) ≡ before_giving l.fn.taken.items (g.S.Source.remaining l.fn.input);
  faults : g.S.Source.faults l.input ≡ g.S.Source.faults l.fn.input;
}

abbrev pub decreases-loop-filled : goal.decreases-loop-filled
decreases-loop-filled g l = 67108864 + 1 - l.filled
