use Rattle.std.proofs.Common.{◌∙◌, refl, subst, sym}
use Rattle.lp_commanding.specs.Going.{Goes}
use Rattle.lp_commanding.proofs.Told.{dead_stops}
use Rattle.lp_commanding.proofs.telling.tell_holder.Goals as goal

pub returns-then-not-is_live-clause-goes : goal.returns-then-not-is_live-clause-goes
returns-then-not-is_live-clause-goes c =
    let a = c.args in
    subst (λ r. Goes r a.job.now a.live.now a.turn.now a.stack.now.items a.job.now a.live.now c.end_zero.new.turn a.stack.now.items) (sym c.end_zero.ensures.ends)
    (record {
      stack = refl;
      course = dead_stops a.job.now a.live.now a.turn.now c.end_zero.new.turn c.requires.untold c.requires.none (sym c.is_live.ensures ∙ c.if-not-is_live.true) c.end_zero.ensures.popped;
    })
