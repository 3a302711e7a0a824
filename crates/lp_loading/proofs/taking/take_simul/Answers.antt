use Rattle.std.proofs.Common.{subst, sym}
use Rattle.lp_loading.specs.Going.{Takes}
use Rattle.lp_loading.specs.declared.job.Answer.TheVariants as answers
use Rattle.lp_loading.specs.declared.job.Fed.TheVariants as fed
use Rattle.lp_loading.specs.declared.job.Waiting.TheVariants as waitings
use Rattle.lp_loading.proofs.Answered.{faults_end, stop_ends}
use Rattle.lp_loading.proofs.SeenNames.{if_ok}
use Rattle.lp_loading.proofs.taking.take_simul.Goals as goal

pub returns-in-Value-clause-takes : goal.returns-in-Value-clause-takes
returns-in-Value-clause-takes c =
    if_ok c.simul_value.result _ _ (λ r f told turn budget. subst (λ a. Takes r c.args.job.now waitings.Simul a told c.args.live.now c.args.job.now turn budget) (sym c.in-Value.is) (f told turn budget)) c.simul_value.ensures.takes

pub returns-in-Faulty-clause-takes : goal.returns-in-Faulty-clause-takes
returns-in-Faulty-clause-takes c = λ told turn budget.
    subst (λ a. Takes (fed.Ends (answers.Faulty c.in-Faulty.faults)) c.args.job.now waitings.Simul a told c.args.live.now c.args.job.now turn budget) (sym c.in-Faulty.is) (faults_end c.args.job.now c.args.job.now waitings.Simul c.in-Faulty.faults told c.args.live.now turn budget)

pub returns-in-Stopped-clause-takes : goal.returns-in-Stopped-clause-takes
returns-in-Stopped-clause-takes c = λ told turn budget.
    subst (λ a. Takes (fed.Ends (answers.Stopped c.in-Stopped.stop)) c.args.job.now waitings.Simul a told c.args.live.now c.args.job.now turn budget) (sym c.in-Stopped.is) (stop_ends c.args.job.now c.args.job.now waitings.Simul c.in-Stopped.stop told c.args.live.now turn budget)

pub returns-in-Value-clause-there : goal.returns-in-Value-clause-there
returns-in-Value-clause-there c = if_ok c.simul_value.result _ _ (λ r f cells h. f cells) c.simul_value.ensures.there
