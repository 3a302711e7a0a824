use Rattle.std.proofs.Common.{subst}
use Rattle.std.proofs.lemmas.Result.{IfOk-weaker}
use Rattle.lp_turn.specs.Masters.{IsMasterOf}
use Rattle.lp_turn.proofs.Initial.{start_applied_loaded, start_unloaded}
use Rattle.lp_turn.proofs.starting.call_loaded.Goals as goal

pub returns-in-Some-clause-goes : goal.returns-in-Some-clause-goes
returns-in-Some-clause-goes c =
    IfOk-weaker c.apply.result _ _ (λ r a. start_applied_loaded c.args.live.now c.in-Some.m c.args.f r a (subst (λ q. IsMasterOf c.args.live.now.names q) c.in-Some.is c.master.ensures)) c.apply.ensures.applies

pub returns-in-None-clause-goes : goal.returns-in-None-clause-goes
returns-in-None-clause-goes c =
    IfOk-weaker c.unanswered.result _ _
    (λ r b. start_unloaded c.args.live.now c.args.live.now c.args.f r (subst (λ q. IsMasterOf c.args.live.now.names q) c.in-None.is c.master.ensures) b) c.unanswered.ensures.begins
