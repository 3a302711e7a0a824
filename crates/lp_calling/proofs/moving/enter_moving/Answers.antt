use Rattle.std.proofs.Common.{subst, sym}
use Rattle.std.proofs.lemmas.Result.{IfOk-weaker}
use Rattle.lp_calling.specs.declared.job.Stage.TheVariants as stages
use Rattle.lp_calling.specs.declared.moving.Moving.TheVariants as moves
use Rattle.lp_calling.specs.Entering.{Advances}
use Rattle.lp_calling.proofs.Visits.{still_advances}
use Rattle.lp_calling.proofs.moving.enter_moving.Goals as goal

pub returns-in-Destination-clause-advances : goal.returns-in-Destination-clause-advances
returns-in-Destination-clause-advances c =
    let a = c.args in
    subst (λ m. Advances (stages.Move m) a.live.now a.turn.now (stages.Move (moves.Destination c.in-Destination.name)) a.live.now a.turn.now) (sym c.in-Destination.is)
    (still_advances (stages.Move (moves.Destination c.in-Destination.name)) a.live.now a.turn.now)

pub returns-in-Into-clause-advances : goal.returns-in-Into-clause-advances
returns-in-Into-clause-advances c =
    let a = c.args in
    IfOk-weaker c.enter_into.result _ _
    (λ t k. subst (λ m. Advances (stages.Move m) a.live.now a.turn.now t c.enter_into.new.live a.turn.now) (sym c.in-Into.is) k) c.enter_into.ensures.advances

pub returns-in-Visiting-clause-advances : goal.returns-in-Visiting-clause-advances
returns-in-Visiting-clause-advances c =
    let a = c.args in
    subst (λ m. Advances (stages.Move m) a.live.now a.turn.now c.enter_visits.result a.live.now a.turn.now) (sym c.in-Visiting.is) c.enter_visits.ensures.advances
