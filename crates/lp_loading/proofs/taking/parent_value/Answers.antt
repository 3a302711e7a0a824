use Rattle.std.proofs.Common.{sym}
use Rattle.lp_loading.specs.declared.job.Waiting.TheVariants as waitings
use Rattle.lp_loading.proofs.Answered.{nothing_ends}
use Rattle.lp_loading.proofs.SeenNames.{if_ok}
use Rattle.lp_loading.proofs.taking.parent_value.Goals as goal

pub returns-in-Some-clause-takes : goal.returns-in-Some-clause-takes
returns-in-Some-clause-takes c = if_ok c.after_parent.result _ _ (λ r f told turn budget. f c.args.v.now told turn budget (sym c.in-Some.ensures)) c.after_parent.ensures.takes

pub returns-in-None-clause-takes : goal.returns-in-None-clause-takes
returns-in-None-clause-takes c = λ told turn budget. nothing_ends c.args.job.now c.args.job.now (waitings.Parent c.args.name) c.args.v.now told c.args.live.now turn budget (sym c.in-None.ensures)
