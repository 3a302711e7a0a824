use Rattle.lp_world.specs.Rows.{live_in}
use Rattle.lp_efuns.proofs.Enabled.{row_there}
use Rattle.lp_calling.proofs.Leaving.{master_takes, no_master_takes}
use Rattle.lp_calling.proofs.leave.take_master.Goals as goal

pub returns-in-Some-clause-takes : goal.returns-in-Some-clause-takes
returns-in-Some-clause-takes c = λ low stack. master_takes c.args.wish c.args.v.now c.in-Some.m (live_in c.args.objects.now) low stack c.in-Some.ensures.value

pub returns-in-Some-clause-ready : goal.returns-in-Some-clause-ready
returns-in-Some-clause-ready c = row_there c.args.objects.now c.in-Some.m c.in-Some.ensures.live

pub returns-in-None-clause-takes : goal.returns-in-None-clause-takes
returns-in-None-clause-takes c = λ low stack. no_master_takes c.args.wish c.args.v.now (live_in c.args.objects.now) low stack c.refused.result c.in-None.ensures.value (c.refused.ensures.granted (live_in c.args.objects.now))
