use Rattle.lp_front_end.proofs.Names.{names_have_files}
use Rattle.lp_front_end.proofs.law_names_have_files.Goals as goal

pub returns : goal.returns
returns c = names_have_files
