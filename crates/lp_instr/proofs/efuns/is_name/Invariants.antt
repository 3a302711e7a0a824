use Rattle.std.proofs.Common.{◌≡◌, drop, length}
use Rattle.lp_instr.specs.EfunList.{is_name}
use Rattle.lp_instr.proofs.efuns.is_name.Given as goal

abbrev pub invariant-loop-i : goal.invariant-loop-i
invariant-loop-i l = record { same : is_name l.letters l.name ≡ is_name (drop l.i l.letters) (drop l.i l.name); long : length l.letters ≡ length l.name }
