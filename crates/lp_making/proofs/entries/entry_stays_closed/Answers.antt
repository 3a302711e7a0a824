use Rattle.lp_making.proofs.Counted.{entry_closed}
use Rattle.lp_making.proofs.entries.entry_stays_closed.Goals as goal

pub returns : goal.returns
returns c = entry_closed
