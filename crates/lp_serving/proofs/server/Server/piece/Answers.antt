use Rattle.lp_sessions.specs.Tied.{new_session}
use Rattle.lp_serving.proofs.Going.{ok_then}
use Rattle.lp_serving.proofs.Happening.{from_highest}
use Rattle.lp_serving.proofs.LinesHeard.{lines_on, pieces_fed, pieces_not}
use Rattle.lp_serving.proofs.server.Server.piece.Goals as goal

pub returns-in-None-clause-goes : goal.returns-in-None-clause-goes
returns-in-None-clause-goes g c = λ origin from. pieces_not c.args.k _ _ c.args.bytes.now _ _ _ c.in-None.ensures.none c.requires.number

pub returns-in-Ok-clause-goes : goal.returns-in-Ok-clause-goes
returns-in-Ok-clause-goes g c =
    let d = new_session c.args.k in
    ok_then c.lines.result _ _
    (λ all origin from. pieces_fed c.in-Some.i c.args.k _ _ _ _ _ _ c.args.bytes.now _ _ _ _ _ _ c.in-Some.ensures.within c.in-Some.ensures.found c.in-Ok.ensures.fed c.requires.number
    (from_highest _ _ _ _ _ _ _ _ _ _ _ _ c.feed.ensures.highest (lines_on c.args.k _ _ _ _ _ _ _ _ _ _ _ _ c.as_slice.ensures.value (all origin from))))
    c.lines.ensures.goes
