use Rattle.lp_verify.proofs.Looking.{new_walk}
use Rattle.lp_verify.proofs.walk.Walk.new.Goals as goal

pub returns : goal.returns
returns c = new_walk c.args.places _ c.new.ensures c.in_ok-seen.ensures c.new-2.ensures.items
