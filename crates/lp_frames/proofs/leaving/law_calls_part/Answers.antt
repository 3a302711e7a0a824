use Rattle.lp_frames.proofs.Parts.{calls_part}
use Rattle.lp_frames.proofs.leaving.law_calls_part.Goals as goal

pub returns : goal.returns
returns c = calls_part
