use Rattle.lp_encoding.proofs.Puts.{on_ok, four}
use Rattle.lp_encoding.proofs.instrs.CaseCoded.put.Goals as goal

pub returns-in_ok-put-in-Ints-3-clause-spelled : goal.returns-in_ok-put-in-Ints-3-clause-spelled
returns-in_ok-put-in-Ints-3-clause-spelled c = rw c.in-Ints.is (on_ok c.put-in-Ints-3.result (λ h. four _ _ _ _ _ _ _ _ _ c.in_ok-put-in-Ints.ensures.spelled c.in_ok-put-in-Ints-2.ensures.spelled c.in_ok-put-in-Ints-3.ensures.spelled h) c.put-in-Ints-3.ensures.spelled)
