use Rattle.lp_meaning.proofs.Unique.{one_turn}
use Rattle.lp_meaning.proofs.one_turn.Goals as goal

pub returns : goal.returns
returns c = one_turn
