use Rattle.lp_beginning.proofs.Staying.{parts_stay}
use Rattle.lp_beginning.proofs.laws.law_parts_stay.Goals as goal

pub returns : goal.returns
returns c = parts_stay
