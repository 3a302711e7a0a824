use Rattle.std.proofs.Common.{arith}
use Rattle.lp_script.proofs.NumberCode.{between_most}
use Rattle.lp_script.proofs.items.connect_at.Goals as goal

pub overflow_cast-result : goal.overflow_cast-result
overflow_cast-result c = omega (arith, between_most _ _ _ _ _ _ c.in_ok-k.ensures)
