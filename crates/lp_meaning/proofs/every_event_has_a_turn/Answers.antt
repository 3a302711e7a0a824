use Rattle.lp_meaning.proofs.Turning.{every_event_has_a_turn}
use Rattle.lp_meaning.proofs.every_event_has_a_turn.Goals as goal

pub returns : goal.returns
returns c = every_event_has_a_turn
