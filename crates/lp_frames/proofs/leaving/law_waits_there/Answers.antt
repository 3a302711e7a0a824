use Rattle.lp_frames.proofs.Parts.{waits_there}
use Rattle.lp_frames.proofs.leaving.law_waits_there.Goals as goal

pub returns : goal.returns
returns c = waits_there
