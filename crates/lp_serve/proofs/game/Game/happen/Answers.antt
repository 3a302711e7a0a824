use Rattle.std.proofs.Common.{◌≡◌, false, refl, sym, ap, ◌∙◌, List, ℕ}
use Rattle.lp_wire.specs.Heard.{happening_heard}
use Rattle.lp_wire.specs.declared.happening.Happening.TheVariants as happenings
use Rattle.lp_serve.proofs.Doing.{happening_on, if_then, player_does, stays_does}
use Rattle.lp_serve.proofs.game.Game.happen.Goals as goal

pub returns-in-Piece-clause-does : goal.returns-in-Piece-clause-does
returns-in-Piece-clause-does g c =
    if_then c.piece.result _ _ (λ stops all origin from. happening_on (happenings.Piece c.in-Piece.k c.as_slice.result.now) c.args.happening.now _ _ _ _ stops _ _
    (ap (λ (x : List ℕ). happenings.Piece c.in-Piece.k x) c.as_slice.ensures ∙ sym c.in-Piece.is) (all origin from)) c.piece.ensures.does

pub returns-in_ok-accept-in-Accept-clause-does : goal.returns-in_ok-accept-in-Accept-clause-does
returns-in_ok-accept-in-Accept-clause-does g c = λ origin from. happening_on (happenings.Accept c.in-Accept.k) c.args.happening.now _ _ _ _ false _ _ (sym c.in-Accept.is) (c.in_ok-accept-in-Accept.ensures.does origin from)

pub returns-in_ok-lose-in-Lost-clause-does : goal.returns-in_ok-lose-in-Lost-clause-does
returns-in_ok-lose-in-Lost-clause-does g c = λ origin from. happening_on (happenings.Lost c.in-Lost.k) c.args.happening.now _ _ _ _ false _ _ (sym c.in-Lost.is) (c.in_ok-lose-in-Lost.ensures.does origin from)

pub returns-in_ok-tick-in-Tick-clause-does : goal.returns-in_ok-tick-in-Tick-clause-does
returns-in_ok-tick-in-Tick-clause-does g c = λ origin from. happening_on (happenings.Tick c.in-Tick.moment) c.args.happening.now _ _ _ _ false _ _ (sym c.in-Tick.is)
    (player_does (λ slow h. happening_heard slow (happenings.Tick c.in-Tick.moment) h) _ _ _ _ _ _ refl (c.in_ok-tick-in-Tick.ensures.goes origin from))

pub returns-in-Idle-clause-does : goal.returns-in-Idle-clause-does
returns-in-Idle-clause-does g c = λ origin from. happening_on happenings.Idle c.args.happening.now _ _ _ _ false _ _ (sym c.in-Idle.is)
    (stays_does (λ h. h) (λ slow h. happening_heard slow happenings.Idle h) _ _ _ false _ refl (λ slow h l s going. (refl, s, going)))
