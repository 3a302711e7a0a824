use Rattle.lp_residence.proofs.Fitted.{row_called}
use Rattle.lp_residence.proofs.fitting.is_row_there.Goals as goal

pub returns-in-Some : goal.returns-in-Some
returns-in-Some c = row_called c.args.versions.now c.args.parents.now c.args.parent c.args.slot c.in-Some.p.now c.slot_count.result c.in-Some.ensures.lookup.3.0 c.in-Some.ensures.lookup.1 c.slot_count.ensures
