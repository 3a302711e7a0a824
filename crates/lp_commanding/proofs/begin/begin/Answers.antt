use Rattle.std.proofs.Common.{◌∙◌, false, refl, sym}
use Rattle.lp_commanding.specs.declared.job.Commanding.{Commanding}
use Rattle.lp_commanding.proofs.Started.{line_begins}
use Rattle.lp_commanding.proofs.begin.begin.Goals as goal

pub returns-clause-begins : goal.returns-clause-begins
returns-clause-begins c =
    let a = c.args in
    let job : Commanding = record { holder = a.holder; argument = c.in_ok-argument.argument; left = c.in_ok-left.left; is_told = false } in
    line_begins job a.live.now a.turn.now c.push_command.new.turn a.line.now c.verb_of-verb.result.now (sym c.is_empty.ensures ∙ c.if-is_empty.false) c.verb_of-verb.ensures c.in_ok-argument.ensures refl
    c.in_ok-left.ensures c.in_ok-push_command.ensures.pushes
