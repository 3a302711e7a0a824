use Rattle.lp_types.proofs.Adding.{then, at_line}
use Rattle.lp_types.proofs.simple.run_faults.Goals as goal

pub returns : goal.returns
returns c = then _ _ _ (at_line c.args.line _ _ _ c.in_ok-first_faults.ensures c.in_ok-assignments.ensures) c.in_ok-behind_faults.ensures
