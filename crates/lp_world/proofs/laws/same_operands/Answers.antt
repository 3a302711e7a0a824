use Rattle.lp_world.proofs.Keeping.{operand_same}
use Rattle.lp_world.proofs.laws.same_operands.Goals as goal

pub returns : goal.returns
returns c = operand_same
