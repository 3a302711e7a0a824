use Rattle.std.proofs.Common.{◌∙◌, ap, subst, sym}
use Rattle.lp_calling.specs.Jobs.{IsStageOn, IsStageReady}
use Rattle.lp_calling.specs.Leaving.{AsksLeave, master_stage}
use Rattle.lp_calling.specs.declared.wish.Wish.TheVariants as wishes
use Rattle.lp_calling.proofs.Leaving.{leave_asks, master_on, master_ready}
use Rattle.lp_calling.proofs.leave.leave_stage.Goals as goal

pub returns-clause-asks : goal.returns-clause-asks
returns-clause-asks c =
    let a = c.args in
    subst (λ st. AsksLeave a.live.now a.this a.deed a.path st) (sym (c.master_stage.ensures ∙ ap (λ o. master_stage c.master-master.result (wishes.File a.deed a.path o)) c.where_live-asker.ensures.value))
    (leave_asks a.live.now a.this a.deed a.path c.master-master.result c.requires c.master-master.ensures.master)

pub returns-clause-on : goal.returns-clause-on
returns-clause-on c = λ low n l.
    subst (λ st. IsStageOn st low n) (sym c.master_stage.ensures) (master_on c.master-master.result (wishes.File c.args.deed c.args.path c.where_live-asker.result) low n c.requires l)

pub returns-clause-ready : goal.returns-clause-ready
returns-clause-ready c =
    subst (λ st. IsStageReady c.args.live.now.objects st) (sym c.master_stage.ensures)
    (master_ready c.args.live.now.objects c.master-master.result (wishes.File c.args.deed c.args.path c.where_live-asker.result) c.master-master.ensures.live)
