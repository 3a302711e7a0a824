use Rattle.lp_meaning.proofs.KeptVersions.{list_has_the_kept as so}
use Rattle.lp_meaning.proofs.list_has_the_kept.Goals as goal

pub returns : goal.returns
returns c = so
