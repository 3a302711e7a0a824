use Rattle.std.proofs.Common.{◌∙◌, sym}
use Rattle.lp_commanding.proofs.Tried.{giver_dead, held_so}
use Rattle.lp_commanding.proofs.trying.is_tried.Goals as goal

pub returns-then-not-is_live-clause-tried : goal.returns-then-not-is_live-clause-tried
returns-then-not-is_live-clause-tried c = giver_dead c.args.live.now c.args.holder c.args.x.now (sym c.is_live.ensures ∙ c.if-not-is_live.true)

pub returns-clause-tried : goal.returns-clause-tried
returns-clause-tried c = held_so c.args.live.now c.args.holder c.args.x.now c.held.result (sym c.is_live.ensures ∙ c.if-not-is_live.false) c.held.ensures
