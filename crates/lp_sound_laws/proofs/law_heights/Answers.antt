use Rattle.lp_sound_laws.proofs.Lowering.{low}
use Rattle.lp_sound_laws.proofs.law_heights.Goals as goal

pub returns : goal.returns
returns c = low
