use Rattle.std.proofs.Common.{sym, ap, ◌∙◌}
use Rattle.lp_sessions.specs.Tied.{new_session}
use Rattle.lp_serving.specs.Happens.{open_phase}
use Rattle.lp_serving.proofs.LinesHeard.{open_at, open_not}
use Rattle.lp_serving.proofs.server.Server.is_open.Goals as goal

pub returns-in-Open : goal.returns-in-Open
returns-in-Open c = λ hi mo h l v.
    let d = new_session c.args.k in
    open_at c.in-Some.i c.args.k hi mo _ d h l c.in-Some.ensures.within (c.in-Some.ensures.found d) v ∙ ap open_phase (sym (c.phase.ensures d) ∙ c.in-Open.is)

pub returns-in-Closing : goal.returns-in-Closing
returns-in-Closing c = λ hi mo h l v.
    let d = new_session c.args.k in
    open_at c.in-Some.i c.args.k hi mo _ d h l c.in-Some.ensures.within (c.in-Some.ensures.found d) v ∙ ap open_phase (sym (c.phase.ensures d) ∙ c.in-Closing.is)

pub returns-in-Over : goal.returns-in-Over
returns-in-Over c = λ hi mo h l v.
    let d = new_session c.args.k in
    open_at c.in-Some.i c.args.k hi mo _ d h l c.in-Some.ensures.within (c.in-Some.ensures.found d) v ∙ ap open_phase (sym (c.phase.ensures d) ∙ c.in-Over.is)

pub returns-in-None : goal.returns-in-None
returns-in-None c = λ hi mo h l v. open_not c.args.k hi mo _ h l c.in-None.ensures.none v
