use Rattle.lp_front_end.proofs.Telling.{faults_name_the_file}
use Rattle.lp_front_end.proofs.law_faults_name_the_file.Goals as goal

pub returns : goal.returns
returns c = faults_name_the_file
