use Rattle.std.proofs.Common.{ap, ◌∙◌}
use Rattle.lp_sessions.specs.Tied.{new_session}
use Rattle.lp_serving.specs.declared.server.Server.{Server}
use Rattle.lp_serving.proofs.Going.{ok_then}
use Rattle.lp_serving.proofs.EventsRecorded.{goes_keeps}
use Rattle.lp_serving.proofs.Happening.{loses, loses_not, happens_closed, from_sessions, to_state}
use Rattle.lp_serving.proofs.Cutting.{cut_keeps, err_then}
use Rattle.lp_serving.proofs.server.Server.lose.Goals as goal

pub returns-in-Some-clause-goes : goal.returns-in-Some-clause-goes
returns-in-Some-clause-goes g c =
    let d = new_session c.args.k in
    let rest = c.forget.ensures.rest in
    let without = ap (λ (x : Server). x.connections.sessions) rest in
    let highest = c.event.ensures.highest ∙ ap (λ (x : Server). x.connections.highest) rest in
    let moment = c.event.ensures.moment ∙ ap (λ (x : Server). x.moment) rest in
    ok_then c.event.result _ _
    (λ all origin from. happens_closed _ _ _ _ _ _ _ _ _ _ _ _ c.forget.ensures.calls (to_state _ _ _ _ _ _ _ _ _ _ _ _ _ highest moment
    (loses c.in-Some.i c.args.k c.args.self.now.connections.highest c.args.self.now.moment _ _ _ _ d _ _ c.in-Some.ensures.within (c.in-Some.ensures.found d)
    (from_sessions _ _ _ _ _ _ _ _ without (goes_keeps _ _ _ _ _ _ _ _ _ _ _ _ (ap (λ (x : Server). x.keeps) rest) (all origin from))) c.requires.number)))
    c.event.ensures.goes

pub returns-in-None-clause-goes : goal.returns-in-None-clause-goes
returns-in-None-clause-goes g c = λ origin from. loses_not c.args.k _ _ _ _ _ c.in-None.ensures.none c.requires.number

pub returns-in-Some-clause-cut : goal.returns-in-Some-clause-cut
returns-in-Some-clause-cut g c = err_then c.event.result _ _ (λ end h. cut_keeps _ _ _ _ _ _ end (ap (λ (x : Server). x.keeps) c.forget.ensures.rest) h) c.event.ensures.cut
