use Rattle.lp_instr.proofs.Names.{numbered}
use Rattle.lp_instr.proofs.efuns.law_numbers.Goals as goal

pub returns : goal.returns
returns c = numbered
