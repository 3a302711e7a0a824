use Rattle.std.proofs.Common.{◌∙◌, ap, is_some, sym}
use Rattle.lp_world.specs.Connecting.{Connecting}
use Rattle.lp_efuns.proofs.Handed.{closed_handed, given_none, given_some, none_found}
use Rattle.lp_efuns.proofs.connections.give_unless_connected.Goals as goal

pub returns-then-is_some-clause-gives : goal.returns-then-is_some-clause-gives
returns-then-is_some-clause-gives c = given_some c.args.live.now c.args.number c.args.to (ap is_some (sym c.of.ensures) ∙ sym c.is_some.ensures ∙ c.if-is_some.true)

pub returns-clause-gives : goal.returns-clause-gives
returns-clause-gives c =
    given_none c.args.live.now c.args.number c.args.to c.give.new.self (sym c.of.ensures ∙ none_found c.of.result (sym c.is_some.ensures ∙ c.if-is_some.false)) c.give.ensures

pub returns-clause-closed : goal.returns-clause-closed
returns-clause-closed c = closed_handed c.args.live.now c.give.new.self c.requires.closed (ap (λ (x : Connecting). x.waiting) c.give.ensures)
