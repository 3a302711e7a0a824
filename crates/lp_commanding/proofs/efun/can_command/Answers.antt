use Rattle.std.proofs.Common.{◌∙◌, sym}
use Rattle.lp_commanding.proofs.Commanded.{dead_cannot, live_can}
use Rattle.lp_commanding.proofs.efun.can_command.Goals as goal

pub returns-then-not-is_live-clause-can : goal.returns-then-not-is_live-clause-can
returns-then-not-is_live-clause-can c = dead_cannot c.args.live.now c.args.o (sym c.is_live.ensures ∙ c.if-not-is_live.true)

pub returns-clause-can : goal.returns-clause-can
returns-clause-can c = live_can c.args.live.now c.args.o c.is_living.result (sym c.is_live.ensures ∙ c.if-not-is_live.false) c.is_living.ensures
