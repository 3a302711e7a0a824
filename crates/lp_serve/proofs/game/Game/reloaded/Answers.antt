use Rattle.std.proofs.Common.{refl, codes}
use Rattle.lp_serving.proofs.Going.{ok_then}
use Rattle.lp_serve.proofs.Doing.{answer_does}
use Rattle.lp_serve.proofs.Ordering.{reload_does, reloaded_does}
use Rattle.lp_serving.proofs.Cutting.{cut_none, cut_then, err_then}
use Rattle.lp_serve.proofs.game.Game.reloaded.Goals as goal

pub returns-clause-does : goal.returns-clause-does
returns-clause-does g c =
    ok_then c.answer.result _ _
    (λ tells origin from. reloaded_does c.args.path c.args.bytes (codes "ok\n") _ _ _ _ _ _ _ _
    (reload_does c.args.path c.args.bytes _ _ _ _ _ _ refl c.in_ok-event.ensures.highest c.in_ok-event.ensures.moment (c.in_ok-event.ensures.goes origin from))
    (answer_does (codes "ok\n") _ _ _ _ _ tells c.answer.ensures.rest))
    c.answer.ensures.tells

pub returns-clause-cut : goal.returns-clause-cut
returns-clause-cut g c = err_then c.answer.result _ _
    (λ end h. cut_then _ _ _ _ _ _ _ end (λ origin from. let t = c.in_ok-event.ensures.goes origin from in (t.deeds, t.ran)) (cut_none _ _ g.C.Core.ran c.event.new.core c.event.new.swap _ _ _ end refl))
    c.answer.ensures.memory
