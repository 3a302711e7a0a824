use Rattle.std.proofs.Common.{◌∙◌, sym}
use Rattle.lp_turn.proofs.Connected.{gone_free, gone_held}
use Rattle.lp_turn.proofs.begin.gone.Goals as goal

pub returns-in-Some-clause-begins : goal.returns-in-Some-clause-begins
returns-in-Some-clause-begins c =
    gone_held c.args.live.now c.forget.new.live c.close.new.live c.args.number c.in-Some.o c.forget.ensures.forgets c.close.ensures.closes (sym c.holder.ensures ∙ c.in-Some.is)

pub returns-in-None-clause-begins : goal.returns-in-None-clause-begins
returns-in-None-clause-begins c = gone_free c.args.live.now c.forget.new.live c.args.number c.forget.ensures.forgets (sym c.holder.ensures ∙ c.in-None.is)
