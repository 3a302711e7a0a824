use Rattle.lp_front_end.proofs.Names.{files_are_of_names}
use Rattle.lp_front_end.proofs.law_files_are_of_names.Goals as goal

pub returns : goal.returns
returns c = files_are_of_names
