use Rattle.std.proofs.Common.{[], ◌∷◌, ap}
use Rattle.lp_sessions.specs.declared.session.Session.{Session}
use Rattle.lp_sessions.specs.Table.{Connections}
use Rattle.lp_serving.proofs.Going.{settle_none, settle_some, turns_on, ok_then}
use Rattle.lp_serving.proofs.EventsRecorded.{goes_keeps}
use Rattle.lp_wire.specs.Courses.{Turned}
use Rattle.lp_events.specs.declared.event.Event.TheVariants.{Gone}
use Rattle.lp_serving.proofs.Cutting.{cut_keeps, cut_then, err_then}
use Rattle.lp_serving.proofs.server.Server.+settle.Goals as goal

pub returns-in_ok-turn_over-in-Some-clause-goes : goal.returns-in_ok-turn_over-in-Some-clause-goes
returns-in_ok-turn_over-in-Some-clause-goes g t c =
    let mine = ap (λ (s : Session). s.number) (c.remove-gone.ensures.was c.remove-gone.result) in
    let without = ap (λ (x : Connections). x.sessions) c.remove-gone.ensures.rest in
    ok_then c.settle.result _ _
    (λ all origin from. settle_some _ _ _ c.in-Some.i c.remove-gone.result.number c.remove-gone.result _ _ _ _ _ _ _ c.in-Some.ensures.some mine c.close.ensures.closed
    (turns_on _ _ _ _ _ _ _ _ without (c.in_ok-turn_over-in-Some.ensures.turns origin from)) (goes_keeps _ _ _ _ _ _ _ _ _ _ _ _ c.in_ok-turn_over-in-Some.ensures.keeps (all origin from)))
    c.settle.ensures.goes

pub returns-in-None-clause-goes : goal.returns-in-None-clause-goes
returns-in-None-clause-goes g t c = λ origin from. settle_none _ _ _ c.in-None.ensures.none

pub returns-in_ok-turn_over-in-Some-clause-cut : goal.returns-in_ok-turn_over-in-Some-clause-cut
returns-in_ok-turn_over-in-Some-clause-cut g t c = err_then c.settle.result _ _
    (λ end h. cut_then _ _ _ _ _ _ _ end (λ origin from. let u = c.in_ok-turn_over-in-Some.ensures.turns origin from in (Turned (Gone c.remove-gone.result.number) u.outs ∷ [], u.ran)) (cut_keeps _ _ _ _ _ _ end c.in_ok-turn_over-in-Some.ensures.keeps h))
    c.settle.ensures.cut
