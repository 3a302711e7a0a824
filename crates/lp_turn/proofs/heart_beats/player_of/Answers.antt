use Rattle.std.proofs.Common.{◌∙◌, false, sym, true}
use Rattle.lp_turn.proofs.Beaten.{player_is}
use Rattle.lp_turn.proofs.heart_beats.player_of.Goals as goal

pub returns-then-is_living : goal.returns-then-is_living
returns-then-is_living c = player_is c.args.live.now c.args.o true c.requires.live (sym c.if-is_living.true ∙ c.is_living.ensures)

pub returns : goal.returns
returns c = player_is c.args.live.now c.args.o false c.requires.live (sym c.if-is_living.false ∙ c.is_living.ensures)
