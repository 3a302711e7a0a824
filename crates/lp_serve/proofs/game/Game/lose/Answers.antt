use Rattle.std.proofs.Common.{◌≡◌, rules, refl, ap}
use Rattle.lp_control.specs.Operator.{Operator}
use Rattle.lp_serving.proofs.Going.{ok_then}
use Rattle.lp_serve.specs.declared.game.Game.{Game}
use Rattle.lp_serve.proofs.Doing.{player_does}
use Rattle.lp_serve.proofs.Ordering.{lose_renews}
use Rattle.lp_serve.proofs.game.Game.lose.Goals as goal

pub returns-then-k-eq0-clause-does : goal.returns-then-k-eq0-clause-does
returns-then-k-eq0-clause-does g c = λ origin from.
    let none : c.args.k ≡ 0 = search rules in
    let start : Game = c.args.self.now in
    lose_renews c.args.k _ start _ _ none (ap (λ (k : Operator). record start { control = k }) c.renew.ensures)

pub returns-clause-does : goal.returns-clause-does
returns-clause-does g c = ok_then c.lose.result _ _ (λ all origin from. player_does _ _ _ _ _ _ _ refl (all origin from)) c.lose.ensures.goes
