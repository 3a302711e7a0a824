use Rattle.lp_world.proofs.Closing.{closed_with_places}
use Rattle.lp_world.proofs.laws.places_stay_closed.Goals as goal

pub returns : goal.returns
returns c = closed_with_places
