use Rattle.lp_serving.proofs.Going.{event_goes, ok_then}
use Rattle.lp_serving.proofs.EventsRecorded.{goes_keeps}
use Rattle.std.proofs.Common.{[], ◌∷◌}
use Rattle.lp_wire.specs.Courses.{Turned}
use Rattle.lp_serving.proofs.Cutting.{cut_keeps, cut_then, err_then}
use Rattle.lp_serving.proofs.server.Server.event.Goals as goal

pub returns-clause-goes : goal.returns-clause-goes
returns-clause-goes g c = ok_then c.settle.result _ _
    (λ all origin from. event_goes c.args.event _ _ _ _ _ _ _ _ _ (c.in_ok-turn_over.ensures.turns origin from) (goes_keeps _ _ _ _ _ _ _ _ _ _ _ _ c.in_ok-turn_over.ensures.keeps (all origin from)))
    c.settle.ensures.goes

pub returns-clause-cut : goal.returns-clause-cut
returns-clause-cut g c = err_then c.settle.result _ _
    (λ end h. cut_then _ _ _ _ _ _ _ end (λ origin from. let t = c.in_ok-turn_over.ensures.turns origin from in (Turned c.args.event t.outs ∷ [], t.ran)) (cut_keeps _ _ _ _ _ _ end c.in_ok-turn_over.ensures.keeps h))
    c.settle.ensures.cut
