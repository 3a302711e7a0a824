use Rattle.std.proofs.lemmas.Result.{IfOk-weaker}
use Rattle.lp_wsdoor.proofs.Talking.{read_failed}
use Rattle.lp_wsdoor.proofs.door.Door.read.Goals as goal

pub returns-in-Ok-clause-heard : goal.returns-in-Ok-clause-heard
returns-in-Ok-clause-heard g c =
    rw (← c.self.view_is) (IfOk-weaker c.take_in.result _ _ (λ came means. (c.read.new.self, c.in-Ok.message, c.in-Ok.ensures, means)) c.take_in.ensures.means)

pub returns-in-Err-clause-failed : goal.returns-in-Err-clause-failed
returns-in-Err-clause-failed g c =
    rw (← c.self.view_is) (read_failed g.S.Read.remaining c.self.inside.socket c.read.new.self c.in-Err.error c.fault_of.result c.in-Err.ensures)
