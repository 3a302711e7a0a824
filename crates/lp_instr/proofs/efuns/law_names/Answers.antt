use Rattle.lp_instr.proofs.Names.{named_only, named_found}
use Rattle.lp_instr.proofs.efuns.law_names.Goals as goal

pub returns : goal.returns
returns c = record { found = named_found; only = named_only }
