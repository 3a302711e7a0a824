use Rattle.std.proofs.Common.{◌∙◌, sym}
use Rattle.std.proofs.lemmas.Result.{IfOk-weaker}
use Rattle.lp_turn.proofs.Lined.{line_free, line_held}
use Rattle.lp_turn.proofs.begin.line.Goals as goal

pub returns-in-Some-clause-begins : goal.returns-in-Some-clause-begins
returns-in-Some-clause-begins c =
    IfOk-weaker c.line_of.result _ _ (λ r b. line_held c.args.live.now c.line_of.new.live c.args.number c.args.bytes.now c.in-Some.o r (sym c.holder.ensures ∙ c.in-Some.is) b) c.line_of.ensures.begins

pub returns-in-None-clause-begins : goal.returns-in-None-clause-begins
returns-in-None-clause-begins c = line_free c.args.live.now c.args.number c.args.bytes.now (sym c.holder.ensures ∙ c.in-None.is)
