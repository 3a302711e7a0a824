use Rattle.std.proofs.Common.{◌∙◌, sym, arith}
use Rattle.lp_value_efuns.proofs.FitLemmas.{no_more}
use Rattle.lp_value_efuns.proofs.fit.first_other.Goals as goal

pub returns-then-i-args : goal.returns-then-i-args
returns-then-i-args g c = λ cells. sym (c.loop-i.invariant.rest cells ∙ no_more (g.L.Living.live c.args.live.now) cells c.args.kinds.now c.args.args.now c.loop-i.i (omega (arith, c.if-i-args.true)))
