use Rattle.lp_meaning.proofs.Kept.{outcomes_can_be}
use Rattle.lp_meaning.proofs.outcomes_can_be.Goals as goal

pub returns : goal.returns
returns c = outcomes_can_be
