use Rattle.std.proofs.lemmas.Result.{err_from_is_err_and}
use Rattle.lp_workload.proofs.WritingLemmas.{Writes-nothing}
use Rattle.lp_workload.proofs.writing.write_next.Goals as goal

pub returns-in_err-event-clause-wrote : goal.returns-in_err-event-clause-wrote
returns-in_err-event-clause-wrote g c =
    let p = err_from_is_err_and c.from_residual.result c.from_residual.ensures.1 in
    rw (p.1, p.2) (Writes-nothing _ _)
