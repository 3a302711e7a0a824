use Rattle.lp_front_end.proofs.Missing.{tables_are_the_same}
use Rattle.lp_front_end.proofs.law_tables_are_the_same.Goals as goal

pub returns : goal.returns
returns c = tables_are_the_same c.law_files_are_of_names.ensures
