use Rattle.std.proofs.Common.{subst}
use Rattle.std.proofs.lemmas.Result.{IfOk-weaker}
use Rattle.lp_turn.specs.Masters.{IsMasterOf}
use Rattle.lp_turn.proofs.Mastered.{master_applied, master_loaded}
use Rattle.lp_turn.proofs.master.call_master.Goals as goal

pub returns-in-Some-clause-goes : goal.returns-in-Some-clause-goes
returns-in-Some-clause-goes c =
    IfOk-weaker c.apply.result _ _ (λ r a. master_applied c.args.live.now c.in-Some.m c.args.f r a (subst (λ q. IsMasterOf c.args.live.now.names q) c.in-Some.is c.master.ensures)) c.apply.ensures.applies

pub returns-in-None-clause-goes : goal.returns-in-None-clause-goes
returns-in-None-clause-goes c =
    IfOk-weaker c.load.result _ _ (λ r a. master_loaded c.args.live.now c.args.f r a (subst (λ q. IsMasterOf c.args.live.now.names q) c.in-None.is c.master.ensures)) c.load.ensures.loads
