use Rattle.std.proofs.Common.{subst, sym}
use Rattle.lp_world.specs.Rows.{live_in}
use Rattle.lp_calling.specs.declared.job.Stage.TheVariants as stages
use Rattle.lp_calling.specs.Going.{StageTakes}
use Rattle.lp_calling.proofs.moving.take_moving.Goals as goal

pub returns-in-Destination-clause-takes : goal.returns-in-Destination-clause-takes
returns-in-Destination-clause-takes c =
    let a = c.args in
    subst (λ m. StageTakes (stages.Move m) a.v.now (live_in a.objects.now) a.low a.stack.now.items c.take_destination.result a.stack.now.items) (sym c.in-Destination.is)
    (c.take_destination.ensures.takes c.in-Destination.field-0)
