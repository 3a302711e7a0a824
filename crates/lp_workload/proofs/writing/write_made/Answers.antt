use Rattle.lp_workload.proofs.WritingLemmas.{Writes-nothing}
use Rattle.lp_workload.proofs.writing.write_made.Goals as goal

pub returns-in-Err : goal.returns-in-Err
returns-in-Err g c = λ x h. Writes-nothing _ x
