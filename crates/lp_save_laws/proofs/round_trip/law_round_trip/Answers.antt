use Rattle.lp_save_laws.proofs.RoundTrip.{reads_back}
use Rattle.lp_save_laws.proofs.round_trip.law_round_trip.Goals as goal

pub returns : goal.returns
returns c = reads_back
