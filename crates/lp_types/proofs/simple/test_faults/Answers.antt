use Rattle.lp_types.proofs.Adding.{then}
use Rattle.lp_types.proofs.simple.test_faults.Goals as goal

pub returns : goal.returns
returns c = then _ _ _ c.in_ok-assignments.ensures c.in_ok-expr_faults.ensures
