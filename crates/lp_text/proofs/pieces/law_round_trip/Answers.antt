use Rattle.lp_text.proofs.PieceLemmas.{round_trip}
use Rattle.lp_text.proofs.pieces.law_round_trip.Goals as goal

pub returns : goal.returns
returns c = round_trip
