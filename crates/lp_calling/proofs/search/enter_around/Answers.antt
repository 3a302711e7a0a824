use Rattle.std.proofs.Common.{◌≤◌, subst, sym}
use Rattle.std.proofs.lemmas.Result.{IfOk-weaker}
use Rattle.lp_calling.specs.declared.job.Stage.TheVariants as stages
use Rattle.lp_calling.specs.Jobs.{left_around, stage_left}
use Rattle.lp_calling.specs.Searches.{SearchesAround}
use Rattle.lp_calling.proofs.Searches.{around_nothing}
use Rattle.lp_calling.proofs.search.enter_around.Goals as goal

pub returns-in-Some-clause-searches : goal.returns-in-Some-clause-searches
returns-in-Some-clause-searches c =
    IfOk-weaker c.enter_environment.result _ _ (λ t k. subst (λ x. SearchesAround t c.args.live.now c.args.text x) (sym c.in-Some.is) k) c.enter_environment.ensures.searches

pub returns-in-Some-clause-left : goal.returns-in-Some-clause-left
returns-in-Some-clause-left c =
    IfOk-weaker c.enter_environment.result _ _ (λ t k. subst (λ x. stage_left t ≤ left_around x) (sym c.in-Some.is) k) c.enter_environment.ensures.left

pub returns-in-None-clause-searches : goal.returns-in-None-clause-searches
returns-in-None-clause-searches c = subst (λ x. SearchesAround stages.Zero c.args.live.now c.args.text x) (sym c.in-None.is) (around_nothing c.args.live.now c.args.text)
