use Rattle.lp_destructing.proofs.Settled.{destruct_settles}
use Rattle.lp_destructing.proofs.law_destruct_settles.Goals as goal

pub returns : goal.returns
returns c = destruct_settles
