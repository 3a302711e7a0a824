use Rattle.std.proofs.Common.{sym}
use Rattle.lp_loading.specs.declared.job.Waiting.TheVariants as waitings
use Rattle.lp_loading.proofs.Answered.{nothing_ends}
use Rattle.lp_loading.proofs.SeenNames.{if_ok}
use Rattle.lp_loading.proofs.taking.simul_value.Goals as goal

pub returns-in-Some-clause-takes : goal.returns-in-Some-clause-takes
returns-in-Some-clause-takes c = if_ok c.after_simul.result _ _ (λ r f told turn budget. f c.args.v.now c.in-Some.field-0 told turn budget (sym c.in-Some.ensures)) c.after_simul.ensures.takes

pub returns-in-None-clause-takes : goal.returns-in-None-clause-takes
returns-in-None-clause-takes c = λ told turn budget. nothing_ends c.args.job.now c.args.job.now waitings.Simul c.args.v.now told c.args.live.now turn budget (sym c.in-None.ensures)
