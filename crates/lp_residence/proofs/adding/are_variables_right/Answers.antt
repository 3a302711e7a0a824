use Rattle.lp_residence.proofs.Added.{right_variables}
use Rattle.lp_residence.proofs.adding.are_variables_right.Goals as goal

pub returns-in-Some : goal.returns-in-Some
returns-in-Some c = right_variables c.are_fit.result c.args.live.now c.args.program c.args.values.now c.in-Some.v.now c.in-Some.ensures c.are_fit.ensures.count c.are_fit.ensures.there
