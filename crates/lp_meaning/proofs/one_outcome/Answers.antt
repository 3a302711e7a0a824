use Rattle.lp_meaning.proofs.Unique.{one_outcome}
use Rattle.lp_meaning.proofs.one_outcome.Goals as goal

pub returns : goal.returns
returns c = one_outcome
