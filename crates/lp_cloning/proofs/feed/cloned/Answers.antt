use Rattle.lp_cloning.proofs.Behind.{cloned_as}
use Rattle.lp_cloning.proofs.feed.cloned.Goals as goal

pub returns-clause-cloned : goal.returns-clause-cloned
returns-clause-cloned c = cloned_as c.args.ending
