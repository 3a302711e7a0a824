use Rattle.lp_frames.proofs.Entered.{begins_as_written}
use Rattle.lp_frames.proofs.entry.law_begins_as_written.Goals as goal

pub returns : goal.returns
returns c = begins_as_written
