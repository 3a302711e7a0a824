use Rattle.lp_workload.proofs.WritingLemmas.{Writes-last}
use Rattle.lp_workload.proofs.writing.write_beginning.Goals as goal

pub returns : goal.returns
returns g c = Writes-last _ _ _ _ _ _ _ c.in_ok-write_one.ensures c.write_one-2.ensures
