use Rattle.std.proofs.Common.{subst, sym}
use Rattle.lp_calling.specs.Jobs.{IsStageOn, IsStageReady}
use Rattle.lp_calling.specs.Leaving.{AsksToShadow}
use Rattle.lp_calling.specs.declared.wish.Wish.TheVariants as wishes
use Rattle.lp_calling.proofs.Leaving.{master_on, master_ready, shadow_asks}
use Rattle.lp_calling.proofs.leave.ask_to_shadow.Goals as goal

pub returns-clause-asks : goal.returns-clause-asks
returns-clause-asks c =
    let a = c.args in
    subst (λ st. AsksToShadow a.live.now a.this a.o st) (sym c.master_stage.ensures) (shadow_asks a.live.now a.this a.o c.master-master.result c.master-master.ensures.master)

pub returns-clause-on : goal.returns-clause-on
returns-clause-on c = λ n l. subst (λ st. IsStageOn st c.args.low n) (sym c.master_stage.ensures) (master_on c.master-master.result (wishes.Shadow c.args.this c.args.o) c.args.low n tt l)

pub returns-clause-ready : goal.returns-clause-ready
returns-clause-ready c =
    subst (λ st. IsStageReady c.args.live.now.objects st) (sym c.master_stage.ensures) (master_ready c.args.live.now.objects c.master-master.result (wishes.Shadow c.args.this c.args.o) c.master-master.ensures.live)
