use Rattle.lp_plan_laws.proofs.Laying.{layouts_lay}
use Rattle.lp_plan_laws.proofs.law_layouts.Goals as goal

pub returns : goal.returns
returns c = layouts_lay
