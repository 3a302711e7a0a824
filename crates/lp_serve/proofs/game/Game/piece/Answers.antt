use Rattle.std.proofs.Common.{◌≡◌, rules, refl}
use Rattle.lp_serve.proofs.Doing.{if_then, player_does}
use Rattle.lp_serve.proofs.Ordering.{operator_piece, orders_on}
use Rattle.lp_serve.proofs.game.Game.piece.Goals as goal

pub returns-then-k-ne0-clause-does : goal.returns-then-k-ne0-clause-does
returns-then-k-ne0-clause-does g c = λ origin from. player_does _ _ _ _ _ _ _ refl (c.in_ok-piece.ensures.goes origin from)

pub returns-in-Ok-clause-does : goal.returns-in-Ok-clause-does
returns-in-Ok-clause-does g c =
    let none : c.args.k ≡ 0 = search rules in
    if_then c.orders.result _ _ (λ stops all origin from. operator_piece c.args.k c.args.bytes.now _ _ _ _ _ _ stops _ _ none refl c.in-Ok.ensures.fed (orders_on _ _ _ _ _ _ stops _ _ c.as_slice.ensures.value (all origin from))) c.orders.ensures.does
