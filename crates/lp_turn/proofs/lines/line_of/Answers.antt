use Rattle.std.proofs.Common.{◌∙◌, sym, subst}
use Rattle.std.proofs.lemmas.Result.{IfOk-weaker}
use Rattle.lp_meaning.specs.EventTurns.{line_of}
use Rattle.lp_turn.specs.Going.{BeginsWith}
use Rattle.lp_turn.proofs.Lined.{line_commands, line_waits, taker_there}
use Rattle.lp_turn.proofs.lines.line_of.Goals as goal

pub take-requires-clause-there : goal.take-requires-clause-there
take-requires-clause-there c = taker_there c.args.live.now c.args.number c.in-Some.x c.requires.closed (sym c.in-Some.is ∙ c.in_ok-x.ensures)

pub returns-in-Some-clause-begins : goal.returns-in-Some-clause-begins
returns-in-Some-clause-begins c =
    let text = c.in_ok-text.ensures ∙ c.in_ok-points.ensures in
    IfOk-weaker c.take.result _ _
    (λ r b. subst (λ t. BeginsWith (line_of c.args.number c.args.o t) c.args.live.now c.take.new.live r) text
    (line_waits c.args.live.now c.take.new.live c.args.number c.args.o c.in_ok-text.text c.in-Some.x r (sym c.in-Some.is ∙ c.in_ok-x.ensures) b)) c.take.ensures.begins

pub returns-in-None-clause-begins : goal.returns-in-None-clause-begins
returns-in-None-clause-begins c =
    let text = c.in_ok-text.ensures ∙ c.in_ok-points.ensures in
    subst (λ t. BeginsWith (line_of c.args.number c.args.o t) c.args.live.now c.args.live.now c.command.result) text
    (line_commands c.args.live.now c.args.live.now c.args.number c.args.o c.in_ok-text.text c.command.result (sym c.in-None.is ∙ c.in_ok-x.ensures) (c.command.ensures.begins c.args.live.now))

pub returns-in-None-clause-there : goal.returns-in-None-clause-there
returns-in-None-clause-there c = c.command.ensures.there c.args.live.now.cells
