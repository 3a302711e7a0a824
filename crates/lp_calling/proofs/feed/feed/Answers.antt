use Rattle.std.proofs.Common.{subst}
use Rattle.lp_world.specs.Rows.{live_in}
use Rattle.lp_calling.specs.Going.{StageTakes}
use Rattle.lp_calling.proofs.Taking.{takes_as}
use Rattle.lp_calling.proofs.feed.feed.Goals as goal

pub returns-clause-takes : goal.returns-clause-takes
returns-clause-takes c =
    let a = c.args in
    takes_as a.job.now a.v a.live.now c.in_ok-job.field-0 a.stack.now.items c.taken.new.stack.items
    (subst (λ st. StageTakes st a.v (live_in a.live.now.objects) a.job.now.low a.stack.now.items c.in_ok-job.field-0 c.taken.new.stack.items) c.replace-stage.ensures.value c.in_ok-job.ensures.takes)
