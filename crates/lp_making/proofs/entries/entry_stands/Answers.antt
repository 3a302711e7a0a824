use Rattle.lp_making.proofs.Counted.{entry_stands}
use Rattle.lp_making.proofs.entries.entry_stands.Goals as goal

pub returns : goal.returns
returns c = entry_stands
