use Rattle.std.proofs.Common.{sym, ap, ◌∙◌, codes}
use Rattle.lp_wire.specs.Heard.{order_of, ReloadFile, Unknown}
use Rattle.lp_control.specs.Orders.{meant}
use Rattle.lp_serve.proofs.Doing.{answer_does}
use Rattle.lp_serve.proofs.Ordering.{order_on, stop_does}
use Rattle.lp_serve.proofs.game.Game.order.Goals as goal

pub returns-in-Stop-clause-does : goal.returns-in-Stop-clause-does
returns-in-Stop-clause-does g c = λ origin from. stop_does (order_of c.args.line.now) _ _ _ (sym c.order_of.ensures ∙ ap meant c.in-Stop.is)

pub returns-in_ok-reload-in-Reload-clause-does : goal.returns-in_ok-reload-in-Reload-clause-does
returns-in_ok-reload-in-Reload-clause-does g c = λ origin from.
    order_on (ReloadFile c.in-Reload.word.now) (order_of c.args.line.now) _ _ _ _ _ _ _ (sym (ap meant c.in-Reload.is) ∙ c.order_of.ensures) (c.in_ok-reload-in-Reload.ensures.does origin from)

pub returns-in_ok-answer-in-Unknown-clause-does : goal.returns-in_ok-answer-in-Unknown-clause-does
returns-in_ok-answer-in-Unknown-clause-does g c = λ origin from.
    order_on Unknown (order_of c.args.line.now) _ _ _ _ _ _ _ (sym (ap meant c.in-Unknown.is) ∙ c.order_of.ensures) (answer_does (codes "unknown\n") _ _ _ _ _ c.in_ok-answer-in-Unknown.ensures.tells c.answer.ensures.rest)
