use Rattle.lp_front_end.proofs.Telling.{faults_are_told}
use Rattle.lp_front_end.proofs.law_faults_are_told.Goals as goal

pub returns : goal.returns
returns c = faults_are_told
