use Rattle.lp_language.proofs.Bodies.{bodies_keep}
use Rattle.lp_language.proofs.bodies_keep_what_was.Goals as goal

pub returns : goal.returns
returns c = bodies_keep
