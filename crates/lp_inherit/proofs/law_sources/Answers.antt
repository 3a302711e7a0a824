use Rattle.lp_inherit.proofs.Sources.{sources_agree}
use Rattle.lp_inherit.proofs.law_sources.Goals as goal

pub returns : goal.returns
returns c = sources_agree
