use Rattle.std.proofs.lemmas.Result.{IfOk-weaker}
use Rattle.lp_calling.proofs.audience.enter_say.Goals as goal

pub returns-clause-advances : goal.returns-clause-advances
returns-clause-advances c = IfOk-weaker c.say_by.result _ _ (λ t k. k c.args.turn.now c.args.this c.speaker-o.ensures) c.say_by.ensures.says
