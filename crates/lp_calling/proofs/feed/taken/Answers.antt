use Rattle.std.proofs.Common.{◌<◌, length, refl, subst, sym}
use Rattle.std.proofs.lemmas.Result.{IfOk-weaker}
use Rattle.lp_world.specs.Rows.{live_in}
use Rattle.lp_calling.specs.declared.job.Stage.TheVariants as stages
use Rattle.lp_calling.specs.Going.{StageTakes}
use Rattle.lp_calling.specs.Jobs.{IsStageAsking, IsStageOn, stage_left}
use Rattle.lp_calling.proofs.Calling.{zero_takes}
use Rattle.lp_calling.proofs.feed.taken.Goals as goal

pub returns-in-Call-clause-takes : goal.returns-in-Call-clause-takes
returns-in-Call-clause-takes c =
    IfOk-weaker c.take_value.result _ _
    (λ t k. subst (λ s. StageTakes s c.args.v (live_in c.args.objects.now) c.args.low c.args.stack.now.items t c.take_value.new.stack.items) (sym c.in-Call.is) (k c.in-Call.field-0 c.in-Call.field-1 (live_in c.args.objects.now))) c.take_value.ensures.takes

pub returns-in-Load-clause-takes : goal.returns-in-Load-clause-takes
returns-in-Load-clause-takes c =
    IfOk-weaker c.take_value-in-Load.result _ _
    (λ t k. subst (λ s. StageTakes s c.args.v (live_in c.args.objects.now) c.args.low c.args.stack.now.items t c.take_value-in-Load.new.stack.items) (sym c.in-Load.is) (k c.in-Load.field-0 (live_in c.args.objects.now))) c.take_value-in-Load.ensures.loaded

pub returns-in-Target-clause-takes : goal.returns-in-Target-clause-takes
returns-in-Target-clause-takes c =
    subst (λ s. StageTakes s c.args.v (live_in c.args.objects.now) c.args.low c.args.stack.now.items c.take_target.result c.args.stack.now.items) (sym c.in-Target.is)
    (c.take_target.ensures.takes c.in-Target.field-0 c.args.low c.args.stack.now.items)

pub returns-in-Tell-clause-takes : goal.returns-in-Tell-clause-takes
returns-in-Tell-clause-takes c =
    subst (λ s. StageTakes s c.args.v (live_in c.args.objects.now) c.args.low c.args.stack.now.items stages.Zero c.args.stack.now.items) (sym c.in-Tell.is)
    (zero_takes (stages.Tell c.in-Tell.field-0 c.in-Tell.field-1) c.args.v (live_in c.args.objects.now) c.args.low c.args.stack.now.items (λ e own by s. refl))

pub returns-in-Write-clause-takes : goal.returns-in-Write-clause-takes
returns-in-Write-clause-takes c =
    subst (λ s. StageTakes s c.args.v (live_in c.args.objects.now) c.args.low c.args.stack.now.items stages.Zero c.args.stack.now.items) (sym c.in-Write.is)
    (zero_takes (stages.Write c.in-Write.field-0) c.args.v (live_in c.args.objects.now) c.args.low c.args.stack.now.items (λ e own by s. refl))

pub returns-in-Value-clause-takes : goal.returns-in-Value-clause-takes
returns-in-Value-clause-takes c = absurd (subst (λ s. IsStageAsking s) c.in-Value.is c.requires.asking)

pub returns-in-Say-clause-takes : goal.returns-in-Say-clause-takes
returns-in-Say-clause-takes c = absurd (subst (λ s. IsStageAsking s) c.in-Say.is c.requires.asking)

pub returns-in-Say-clause-less : goal.returns-in-Say-clause-less
returns-in-Say-clause-less c = absurd (subst (λ s. IsStageAsking s) c.in-Say.is c.requires.asking)

pub returns-in-TellEach-clause-takes : goal.returns-in-TellEach-clause-takes
returns-in-TellEach-clause-takes c =
    subst (λ s. StageTakes s c.args.v (live_in c.args.objects.now) c.args.low c.args.stack.now.items c.take_told.result c.args.stack.now.items) (sym c.in-TellEach.is)
    (c.take_told.ensures.takes c.args.v (live_in c.args.objects.now) c.args.low c.args.stack.now.items)

pub returns-in-Seek-clause-takes : goal.returns-in-Seek-clause-takes
returns-in-Seek-clause-takes c =
    IfOk-weaker c.take_sought.result _ _
    (λ t k. subst (λ s. StageTakes s c.args.v (live_in c.args.objects.now) c.args.low c.args.stack.now.items t c.take_sought.new.stack.items) (sym c.in-Seek.is) k) c.take_sought.ensures.takes

pub take_master-requires : goal.take_master-requires
take_master-requires c = (subst (λ s. IsStageOn s c.args.low (length c.args.stack.now.items)) c.in-MasterLoad.is c.requires.on).1

pub take_leave-requires : goal.take_leave-requires
take_leave-requires c = (subst (λ s. IsStageOn s c.args.low (length c.args.stack.now.items)) c.in-Master.is c.requires.on).1

pub returns-in-MasterLoad-clause-takes : goal.returns-in-MasterLoad-clause-takes
returns-in-MasterLoad-clause-takes c =
    subst (λ s. StageTakes s c.args.v (live_in c.args.objects.now) c.args.low c.args.stack.now.items c.take_master.result c.args.stack.now.items) (sym c.in-MasterLoad.is)
    (c.take_master.ensures.takes c.args.low c.args.stack.now.items)

pub returns-in-MasterLoad-clause-on : goal.returns-in-MasterLoad-clause-on
returns-in-MasterLoad-clause-on c =
    c.take_master.ensures.on c.args.low (length c.args.stack.now.items) (subst (λ s. IsStageOn s c.args.low (length c.args.stack.now.items)) c.in-MasterLoad.is c.requires.on).0

pub returns-in-Master-clause-takes : goal.returns-in-Master-clause-takes
returns-in-Master-clause-takes c =
    IfOk-weaker c.take_leave.result _ _
    (λ t k. subst (λ s. StageTakes s c.args.v (live_in c.args.objects.now) c.args.low c.args.stack.now.items t c.args.stack.now.items) (sym c.in-Master.is) (k c.in-Master.field-0 c.args.low c.args.stack.now.items)) c.take_leave.ensures.takes

pub returns-in-Master-clause-on : goal.returns-in-Master-clause-on
returns-in-Master-clause-on c =
    IfOk-weaker c.take_leave.result _ _
    (λ t k. k c.args.low (length c.args.stack.now.items) (subst (λ s. IsStageOn s c.args.low (length c.args.stack.now.items)) c.in-Master.is c.requires.on).0) c.take_leave.ensures.on

pub returns-in-File-clause-takes : goal.returns-in-File-clause-takes
returns-in-File-clause-takes c = absurd (subst (λ s. IsStageAsking s) c.in-File.is c.requires.asking)

pub returns-in-Shadow-clause-takes : goal.returns-in-Shadow-clause-takes
returns-in-Shadow-clause-takes c = absurd (subst (λ s. IsStageAsking s) c.in-Shadow.is c.requires.asking)

pub take_moving-requires-clause-low : goal.take_moving-requires-clause-low
take_moving-requires-clause-low c = (subst (λ st. IsStageOn st c.args.low (length c.args.stack.now.items)) c.in-Move.is c.requires.on).0

pub take_moving-requires-clause-asking : goal.take_moving-requires-clause-asking
take_moving-requires-clause-asking c = subst (λ st. IsStageAsking st) c.in-Move.is c.requires.asking

pub returns-in-Move-clause-takes : goal.returns-in-Move-clause-takes
returns-in-Move-clause-takes c =
    subst (λ s. StageTakes s c.args.v (live_in c.args.objects.now) c.args.low c.args.stack.now.items c.take_moving.result c.args.stack.now.items) (sym c.in-Move.is) c.take_moving.ensures.takes

pub returns-in-Move-clause-on : goal.returns-in-Move-clause-on
returns-in-Move-clause-on c = c.take_moving.ensures.on c.args.low (length c.args.stack.now.items) (subst (λ st. IsStageOn st c.args.low (length c.args.stack.now.items)) c.in-Move.is c.requires.on).0

pub returns-in-Move-clause-less : goal.returns-in-Move-clause-less
returns-in-Move-clause-less c = subst (λ st. stage_left c.take_moving.result < stage_left st) (sym c.in-Move.is) c.take_moving.ensures.less

pub returns-in-Move-clause-ready : goal.returns-in-Move-clause-ready
returns-in-Move-clause-ready c = c.take_moving.ensures.ready c.args.objects.now

pub returns-in-TellEach-clause-ready : goal.returns-in-TellEach-clause-ready
returns-in-TellEach-clause-ready c = c.take_told.ensures.ready c.args.objects.now

pub returns-in-Seek-clause-ready : goal.returns-in-Seek-clause-ready
returns-in-Seek-clause-ready c = IfOk-weaker c.take_sought.result _ _ (λ t k. k c.args.objects.now) c.take_sought.ensures.ready

pub returns-in-Master-clause-ready : goal.returns-in-Master-clause-ready
returns-in-Master-clause-ready c = IfOk-weaker c.take_leave.result _ _ (λ t k. k c.args.objects.now) c.take_leave.ensures.ready
