use Rattle.std.proofs.Common.{subst, sym}
use Rattle.lp_calling.specs.Moving.{ActsAs}
use Rattle.lp_calling.proofs.Moves.{nothing_acts, object_acts}
use Rattle.lp_calling.proofs.moving.first_stage.Goals as goal

pub returns-in-Live-clause-acts : goal.returns-in-Live-clause-acts
returns-in-Live-clause-acts c =
    let a = c.args in
    subst (λ st. ActsAs a.live.now a.args.now st) (sym c.move_stage.ensures.stage)
    (object_acts a.live.now a.args.now c.in-Live.dest c.item_in.result c.in-Live.ensures c.item_in.ensures)

pub named_stage-requires : goal.named_stage-requires
named_stage-requires c = c.in-Named.ensures

pub returns-in-Nothing-clause-acts : goal.returns-in-Nothing-clause-acts
returns-in-Nothing-clause-acts c = nothing_acts c.args.live.now c.args.args.now c.in-Nothing.ensures
