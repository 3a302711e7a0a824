use Rattle.lp_plan_laws.proofs.Standing.{tables_stand}
use Rattle.lp_plan_laws.proofs.law_tables.Goals as goal

pub returns : goal.returns
returns c = tables_stand
