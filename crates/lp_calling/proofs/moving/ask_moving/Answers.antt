use Rattle.std.proofs.Common.{subst, sym}
use Rattle.std.proofs.lemmas.Result.{IfOk-weaker}
use Rattle.lp_calling.specs.declared.job.Stage.TheVariants as stages
use Rattle.lp_calling.specs.Going.{StageGoes}
use Rattle.lp_calling.proofs.moving.ask_moving.Goals as goal

pub returns-in-Destination-clause-goes : goal.returns-in-Destination-clause-goes
returns-in-Destination-clause-goes c =
    let a = c.args in
    IfOk-weaker c.ask_destination.result _ _
    (λ r k. λ efun budget. subst (λ m. StageGoes r efun (stages.Move m) a.low a.live.now a.turn.now a.stack.now.items budget a.live.now a.turn.now a.stack.now.items budget) (sym c.in-Destination.is)
    (k efun a.low a.live.now a.turn.now a.stack.now.items budget c.requires.low)) c.ask_destination.ensures.goes
