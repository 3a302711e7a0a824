use Rattle.std.proofs.Common.{◌≡◌, drop, length}
use Rattle.lp_instr.specs.EfunList.{is_name}
use Rattle.lp_types_expr.proofs.simuls.is_name.Given as goal

abbrev pub invariant-loop-i : goal.invariant-loop-i
invariant-loop-i l = record { same : is_name l.bytes l.name ≡ is_name (drop l.i l.bytes) (drop l.i l.name); long : length l.bytes ≡ length l.name }
