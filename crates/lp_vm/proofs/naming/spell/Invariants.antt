use Rattle.std.proofs.Common.{◌≡◌, length, take}
use Rattle.lp_vm.proofs.naming.spell.Given as goal

abbrev pub invariant-loop-i : goal.invariant-loop-i
invariant-loop-i l = record {
  room : length l.into ≡ length l.fn.into;
  spelled : take l.i l.into ≡ take l.i l.letters;
}
