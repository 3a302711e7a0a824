use Rattle.lp_check.proofs.OneReporting.{one_report}
use Rattle.lp_check.proofs.law.law_one_report.Goals as goal

pub returns : goal.returns
returns c = one_report c.law_one_outcome.ensures c.one_unit_law.ensures
