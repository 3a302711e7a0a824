use Rattle.std.proofs.Common.{refl}
use Rattle.lp_serve.proofs.Doing.{offers_again}
use Rattle.lp_serve.proofs.game.Game.offer.Goals as goal

pub returns-clause-tells : goal.returns-clause-tells
returns-clause-tells g c = offers_again _ _ _ _ _ c.offer_all.ensures.tells c.offer.ensures.tells c.offer_all.ensures.highest refl
