use Rattle.std.proofs.Common.{refl, subst}
use Rattle.lp_calling.specs.Entering.{Enters}
use Rattle.lp_calling.proofs.next.enter_job.Goals as goal

pub returns-clause-enters : goal.returns-clause-enters
returns-clause-enters c =
    let a = c.args in (
      refl,
      subst (λ st. Enters a.job.now.efun st a.job.now.low a.live.now a.turn.now a.stack.now.items c.in_ok-job.field-0 c.enter.new.live c.enter.new.turn c.enter.new.stack.items) c.replace-stage.ensures.value c.in_ok-job.ensures.enters,
    )
