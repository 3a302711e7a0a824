use Rattle.std.proofs.Common.{refl, subst, sym}
use Rattle.std.proofs.lemmas.Result.{IfOk-weaker}
use Rattle.lp_turn.specs.Going.{BeginsWith}
use Rattle.lp_turn.specs.Masters.{without_master}
use Rattle.lp_turn.specs.declared.job.MasterFunction.TheVariants as functions
use Rattle.lp_turn.specs.declared.job.Step.TheVariants as steps
use Rattle.lp_turn.proofs.Mastered.{ends_now}
use Rattle.lp_turn.proofs.master.unanswered.Goals as goal

pub returns-in-Connect-clause-begins : goal.returns-in-Connect-clause-begins
returns-in-Connect-clause-begins c =
    IfOk-weaker c.admit.result _ _ (λ r b. subst (λ f. BeginsWith (without_master f) c.args.live.now c.admit.new.live r) (sym c.in-Connect.is) b) c.admit.ensures.goes

pub returns-in-Disconnect-clause-begins : goal.returns-in-Disconnect-clause-begins
returns-in-Disconnect-clause-begins c =
    subst (λ f. BeginsWith (without_master f) c.args.live.now c.args.live.now steps.Ends) (sym c.in-Disconnect.is) (ends_now c.args.live.now (without_master (functions.Disconnect c.in-Disconnect.field-0)) (λ s. refl))
