use Rattle.lp_encoding.proofs.Puts.{on_ok, six}
use Rattle.lp_encoding.proofs.rows.RawProgramCoded.put.Goals as goal

pub returns-clause-spelled : goal.returns-clause-spelled
returns-clause-spelled c = on_ok c.put-6.result (λ h. six _ _ _ _ _ _ _ _ _ _ _ _ _ c.in_ok-put.ensures.spelled c.in_ok-put-2.ensures.spelled c.in_ok-put-3.ensures.spelled c.in_ok-put-4.ensures.spelled c.in_ok-put-5.ensures.spelled h) c.put-6.ensures.spelled
