use Rattle.std.proofs.Common.{◌∙◌, ap}
use Rattle.std.proofs.lemmas.Result.{err_from_is_err_and}
use Rattle.lp_wire.specs.Record.{log_bytes, logged}
use Rattle.lp_script.proofs.PutLemmas.{Puts-none}
use Rattle.lp_recording.proofs.Each.{logs_joined, one_log, each_next, each_stop, each_all}
use Rattle.lp_recording.proofs.recording.put_logs.Goals as goal

pub loop-output-init : goal.loop-output-init
loop-output-init g c = Puts-none _

pub returns-in_err-put_logged : goal.returns-in_err-put_logged
returns-in_err-put_logged g c =
    let p = err_from_is_err_and c.from_residual.result c.from_residual.ensures.1 in
    rw (p.1, p.2) (each_stop logged logs_joined _ _ _ _ c.args.outs.now c.loop-output.output-index _ _ c.loop-output-test.true (ap log_bytes c.output-item.is ∙ one_log _) c.loop-output.invariant c.in_err-put_logged.ensures)

pub loop-output-preserved : goal.loop-output-preserved
loop-output-preserved g c = each_next logged logs_joined _ _ _ c.args.outs.now c.loop-output.output-index _ _ c.loop-output-test.true (ap log_bytes c.output-item.is ∙ one_log _) c.loop-output.invariant c.in_ok-put_logged.ensures

pub returns : goal.returns
returns g c = each_all logged _ _ _ _ c.loop-output-test.false c.loop-output.invariant
