use Rattle.std.proofs.Common.{arith}
use Rattle.lp_script.proofs.NumberCode.{one_of_small}
use Rattle.lp_script.proofs.connections.is_among.Goals as goal

pub returns-then-is_found-clause-small : goal.returns-then-is_found-clause-small
returns-then-is_found-clause-small c = λ n e. one_of_small c.args.numbers.now (λ i. omega (arith, c.type_inv.numbers i)) n e

pub returns-else-is_found-clause-small : goal.returns-else-is_found-clause-small
returns-else-is_found-clause-small c = λ n e. one_of_small c.args.numbers.now (λ i. omega (arith, c.type_inv.numbers i)) n e
