use Rattle.std.proofs.Common.{subst, sym}
use Rattle.lp_meaning.specs.EfunArguments.{value_arg}
use Rattle.lp_world.specs.Rows.{live_in}
use Rattle.lp_calling.specs.declared.job.Stage.TheVariants as stages
use Rattle.lp_calling.specs.declared.moving.Moving.TheVariants as moves
use Rattle.lp_calling.specs.Going.{StageTakes}
use Rattle.lp_calling.specs.Moving.{IsWhom}
use Rattle.lp_calling.proofs.Moves.{destination_takes}
use Rattle.lp_calling.proofs.moving.take_destination.Goals as goal

pub returns-clause-takes : goal.returns-clause-takes
returns-clause-takes c = λ name.
    let a = c.args in
    let l = live_in a.objects.now in
    subst (λ st. StageTakes (stages.Move (moves.Destination name)) a.v.now l a.low a.stack.now.items st a.stack.now.items) (sym c.move_stage.ensures.stage)
    (destination_takes name a.v.now l c.item_in.result c.live_object.result a.low a.stack.now.items (subst (λ vs. IsWhom l (value_arg vs 0) c.item_in.result) c.above.ensures c.item_in.ensures) c.live_object.ensures)
