use Rattle.lp_part_laws.proofs.Latest.{stay_compiled}
use Rattle.lp_part_laws.proofs.law_latest.Goals as goal

pub returns : goal.returns
returns c = stay_compiled
