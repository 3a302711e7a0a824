use Rattle.lp_loading.proofs.FilesRead.{faulty_goes}
use Rattle.lp_loading.proofs.reading.tell_faults.Goals as goal

pub returns-clause-goes : goal.returns-clause-goes
returns-clause-goes c = λ job loads told0 live0 told1 budget turn h.
    faulty_goes c.law_faulty_ends.ensures c.args.faults job loads told0 live0 told1 c.args.live.now c.end_faulty.new.live budget turn c.in_ok-end_faulty.field-0 c.in_ok-end_faulty.ensures.logs c.in_ok-end_faulty.ensures.ends h
