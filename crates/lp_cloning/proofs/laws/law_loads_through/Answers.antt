use Rattle.lp_cloning.proofs.Behind.{loads_through}
use Rattle.lp_cloning.proofs.laws.law_loads_through.Goals as goal

pub returns : goal.returns
returns c = loads_through
