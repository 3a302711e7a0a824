use Rattle.std.proofs.Common.{◌∙◌, ap, false, is_some, sym, true}
use Rattle.lp_turn.proofs.Connected.{free_dead, free_is}
use Rattle.lp_turn.proofs.connecting.free.Goals as goal

pub returns-then-not-is_live-clause-free : goal.returns-then-not-is_live-clause-free
returns-then-not-is_live-clause-free c = free_dead c.args.live.now c.args.o (sym c.is_live.ensures ∙ c.if-not-is_live.true)

pub returns-then-is_some-clause-free : goal.returns-then-is_some-clause-free
returns-then-is_some-clause-free c =
    free_is c.args.live.now c.args.o true (sym c.is_live.ensures ∙ c.if-not-is_live.false) (ap is_some (sym c.of.ensures) ∙ sym c.is_some.ensures ∙ c.if-is_some.true)

pub returns-clause-free : goal.returns-clause-free
returns-clause-free c =
    free_is c.args.live.now c.args.o false (sym c.is_live.ensures ∙ c.if-not-is_live.false) (ap is_some (sym c.of.ensures) ∙ sym c.is_some.ensures ∙ c.if-is_some.false)
