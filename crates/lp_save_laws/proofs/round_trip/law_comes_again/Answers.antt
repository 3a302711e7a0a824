use Rattle.lp_save_laws.proofs.RoundTrip.{comes_again}
use Rattle.lp_save_laws.proofs.round_trip.law_comes_again.Goals as goal

pub returns : goal.returns
returns c = comes_again
