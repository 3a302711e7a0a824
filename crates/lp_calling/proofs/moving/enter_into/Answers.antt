use Rattle.std.proofs.Common.{None, refl}
use Rattle.lp_calling.specs.declared.job.Stage.TheVariants as stages
use Rattle.lp_calling.specs.declared.moving.Moving.TheVariants as moves
use Rattle.lp_calling.specs.declared.moving.Visits.{Visits}
use Rattle.lp_calling.proofs.Visits.{advance_on, move_advances, refusal_advances}
use Rattle.lp_calling.proofs.moving.enter_into.Goals as goal

pub returns-in-Ok-clause-advances : goal.returns-in-Ok-clause-advances
returns-in-Ok-clause-advances c =
    let a = c.args in
    let r : Visits = record { item = a.item; dest = a.dest; calls = c.in-Ok.calls; done = 0; back = None } in
    advance_on (stages.Move (moves.Into a.item a.dest)) (stages.Move (moves.Visiting r)) c.enter_visits.result a.live.now c.move_into.new.live c.move_into.new.live a.turn.now a.turn.now a.turn.now
    (move_advances r a.live.now c.move_into.new.live a.turn.now refl c.in-Ok.ensures.moves c.move_into.ensures.outputs) c.enter_visits.ensures.advances

pub returns-in_ok-kind-in-Err-clause-advances : goal.returns-in_ok-kind-in-Err-clause-advances
returns-in_ok-kind-in-Err-clause-advances c =
    let a = c.args in
    refusal_advances a.item a.dest a.live.now c.move_into.new.live a.turn.now c.in-Err.fault c.in_ok-kind-in-Err.kind c.in_ok-kind-in-Err.ensures c.in-Err.ensures.refused c.in-Err.ensures.same c.move_into.ensures.outputs
