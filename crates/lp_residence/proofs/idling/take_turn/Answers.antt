use Rattle.std.proofs.Common.{◌∙◌, sym}
use Rattle.lp_residence.proofs.IdleLemmas.{goes_there}
use Rattle.lp_residence.proofs.idling.take_turn.Goals as goal

pub put_one-requires-clause-there : goal.put_one-requires-clause-there
put_one-requires-clause-there g c = (goes_there c.args.swap_time c.args.live.now c.args.who (sym c.owner_goes.ensures ∙ c.if-owner_goes.true)).0

pub put_one-requires-clause-here : goal.put_one-requires-clause-here
put_one-requires-clause-here g c = (goes_there c.args.swap_time c.args.live.now c.args.who (sym c.owner_goes.ensures ∙ c.if-owner_goes.true)).1
