use Rattle.lp_meaning.proofs.Turning.{turns_keep}
use Rattle.lp_meaning.proofs.turns_keep_what_was.Goals as goal

pub returns : goal.returns
returns c = turns_keep
