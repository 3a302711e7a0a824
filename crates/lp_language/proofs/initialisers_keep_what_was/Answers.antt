use Rattle.lp_language.proofs.Bodies.{initialisers_keep}
use Rattle.lp_language.proofs.initialisers_keep_what_was.Goals as goal

pub returns : goal.returns
returns c = initialisers_keep
