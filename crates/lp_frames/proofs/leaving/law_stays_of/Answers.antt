use Rattle.lp_frames.proofs.Left.{stays_of}
use Rattle.lp_frames.proofs.leaving.law_stays_of.Goals as goal

pub returns : goal.returns
returns c = stays_of
