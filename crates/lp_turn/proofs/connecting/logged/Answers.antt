use Rattle.std.proofs.Common.{◌∙◌, ap, false, is_some, option_map, refl, sym, true, find, nat_eq}
use Rattle.std.proofs.lemmas.Result.{IfOk-weaker}
use Rattle.lp_meaning.specs.EventTurns.{after_logon}
use Rattle.lp_turn.specs.Connections.{closed_then_done}
use Rattle.lp_turn.specs.Turns.{plain_done}
use Rattle.lp_turn.proofs.Connected.{logged_as, stays_open}
use Rattle.lp_turn.proofs.Kept.{begins_as}
use Rattle.lp_turn.proofs.connecting.logged.Goals as goal

pub returns-then-not-is_zero-clause-goes : goal.returns-then-not-is_zero-clause-goes
returns-then-not-is_zero-clause-goes c =
    stays_open c.args.live.now c.args.number c.args.v.now false (is_some (option_map (λ x. x.object) (find (λ x. nat_eq x.number c.args.number) c.args.live.now.connections.opened))) refl (sym c.is_zero.ensures ∙ c.if-not-is_zero.true) refl

pub returns-in-Some-clause-goes : goal.returns-in-Some-clause-goes
returns-in-Some-clause-goes c =
    IfOk-weaker c.close_and_end.result _ _
    (λ r b. begins_as (closed_then_done c.args.number) (λ s. after_logon c.args.number (plain_done c.args.v.now) s) c.args.live.now c.close_and_end.new.live r
    (λ g programs s h. logged_as g programs c.args.live.now s c.args.number c.args.v.now true true h (sym c.is_zero.ensures ∙ c.if-not-is_zero.false) (ap is_some (sym c.holder.ensures ∙ c.in-Some.is))) b) c.close_and_end.ensures.begins

pub returns-in-None-clause-goes : goal.returns-in-None-clause-goes
returns-in-None-clause-goes c =
    stays_open c.args.live.now c.args.number c.args.v.now true false refl (sym c.is_zero.ensures ∙ c.if-not-is_zero.false) (ap is_some (sym c.holder.ensures ∙ c.in-None.is))
