use Rattle.std.proofs.Common.{◌∙◌}
use Rattle.lp_value_efuns.proofs.PriceLemmas.{price_is}
use Rattle.lp_value_efuns.proofs.price.price_before.Goals as goal

pub returns : goal.returns
returns g c = λ s h k. c.price_by_share.ensures ∙ price_is c.args.efun c.args.args.now s (g.L.Living.live c.args.live.now) c.args.cells.now h k
