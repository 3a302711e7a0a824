use Rattle.std.proofs.lemmas.Result.{IfOk-weaker}
use Rattle.lp_world.proofs.Closing.{closed_with_cells}
use Rattle.lp_efuns.proofs.Acted.{computing_does}
use Rattle.lp_efuns.proofs.computed.computed.Goals as goal

pub returns-clause-does : goal.returns-clause-does
returns-clause-does c =
    IfOk-weaker c.compute_on.result _ _
    (λ d k. λ caller turn. computing_does c.args.efun caller c.args.args.now c.args.live.now turn d c.compute_on.new.cells c.requires.computes c.requires.closed c.requires.there k) c.compute_on.ensures.carries

pub returns-clause-closed : goal.returns-clause-closed
returns-clause-closed c = closed_with_cells c.args.live.now c.compute_on.new.cells c.requires.closed c.compute_on.ensures.stay c.compute_on.ensures.closed
