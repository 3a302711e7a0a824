use Rattle.lp_making.proofs.Counted.{entry_versions}
use Rattle.lp_making.proofs.entries.entry_keeps_versions.Goals as goal

pub returns : goal.returns
returns c = entry_versions
