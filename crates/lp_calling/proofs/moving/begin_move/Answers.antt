use Rattle.std.proofs.Common.{length, subst}
use Rattle.lp_calling.specs.Moving.{ActsAs}
use Rattle.lp_calling.proofs.Moves.{stage_starts}
use Rattle.lp_calling.proofs.moving.begin_move.Goals as goal

pub returns-clause-starts : goal.returns-clause-starts
returns-clause-starts c = λ caller.
    let a = c.args in
    stage_starts c.in_ok-stage.stage caller a.live.now a.low a.stack.now.items (c.in_ok-stage.ensures.on a.low (length a.stack.now.items) c.requires.low)
    (subst (λ vs. ActsAs a.live.now vs c.in_ok-stage.stage) c.above.ensures c.in_ok-stage.ensures.acts)
