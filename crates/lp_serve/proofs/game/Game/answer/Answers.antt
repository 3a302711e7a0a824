use Rattle.std.proofs.Common.{subst}
use Rattle.lp_control.specs.Operator.{Operator, TellsOperator}
use Rattle.lp_serve.proofs.game.Game.answer.Goals as goal

pub returns-in-Ok-clause-tells : goal.returns-in-Ok-clause-tells
returns-in-Ok-clause-tells g c = subst (λ (k : Operator). TellsOperator k c.offer.new.self (g.N.Wire.calls c.args.wire.now) (g.N.Wire.calls c.offer.new.wire)) c.in-Ok.ensures.ok c.offer.ensures.tells
