use Rattle.std.proofs.Common.{◌∙◌, ◌-◌, ap, refl, subst, sym, take}
use Rattle.lp_commanding.specs.Going.{Takes}
use Rattle.lp_commanding.proofs.Started.{done_takes, next_takes, told_takes}
use Rattle.lp_commanding.proofs.feed.feed.Goals as goal

pub returns-then-job-clause-takes : goal.returns-then-job-clause-takes
returns-then-job-clause-takes c =
    let a = c.args in
    subst (λ r. Takes r a.job.now a.v a.live.now a.turn.now a.job.now c.end_with.new.turn) (sym c.end_with.ensures.ends)
    (told_takes a.job.now a.v a.live.now a.turn.now c.end_with.new.turn c.if-job.true c.end_with.ensures.popped)

pub returns-then-not-is_zero-clause-takes : goal.returns-then-not-is_zero-clause-takes
returns-then-not-is_zero-clause-takes c =
    let a = c.args in
    let e = c.end_with-then-not-is_zero in
    subst (λ r. Takes r a.job.now a.v a.live.now a.turn.now a.job.now e.new.turn) (sym e.ensures.ends)
    (done_takes a.job.now a.v a.live.now a.turn.now e.new.turn c.if-job.false (sym (sym c.is_zero.ensures ∙ c.if-not-is_zero.true)) e.ensures.popped)

pub returns-clause-takes : goal.returns-clause-takes
returns-clause-takes c =
    let a = c.args in
    let v = a.job.now.left in
    next_takes a.job.now (record a.job.now { left = c.pop.new.self }) a.v a.live.now a.turn.now c.if-job.false (sym (sym c.is_zero.ensures ∙ c.if-not-is_zero.false)) refl
    (c.pop.ensures.rest ∙ ap (λ n. take (n - 1) v.items) v.ok.0)
