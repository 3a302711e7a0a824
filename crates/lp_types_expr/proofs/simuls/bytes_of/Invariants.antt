use Rattle.std.proofs.Common.{◌≡◌, take}
use Rattle.lp_types_expr.proofs.simuls.bytes_of.Given as goal

abbrev pub invariant-loop-letter : goal.invariant-loop-letter
invariant-loop-letter l = l.bytes.items ≡ take l.letter-index l.name
