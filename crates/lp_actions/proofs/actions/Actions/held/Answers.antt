use Rattle.lp_actions.proofs.Held.{held_is}
use Rattle.std.proofs.Common.{◌∙◌}
use Rattle.lp_actions.proofs.actions.Actions.held.Goals as goal

pub returns : goal.returns
returns c = λ ss lists. c.contains_key.ensures ∙ held_is c.args.holder c.args.number ss c.args.self.now.deeds.entries (lists.each c.args.holder)
