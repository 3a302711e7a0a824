use Rattle.std.proofs.Common.{subst}
use Rattle.lp_top.specs.Replay.{Finishes}
use Rattle.lp_top.proofs.Checking.{checks_early, checks_finished, checks_no_memory}
use Rattle.lp_top.proofs.check.check.Goals as goal

pub returns-in-Err-clause-checks : goal.returns-in-Err-clause-checks
returns-in-Err-clause-checks g c = λ b h. checks_early _ b _ c.in-Err.status (c.in-Err.ensures.end b h) c.in-Err.ensures.kind

pub returns-in-Ok-report-clause-checks : goal.returns-in-Ok-report-clause-checks
returns-in-Ok-report-clause-checks g c = λ b h.
    let w = c.in-Ok.ensures.gathered b h in
    checks_finished _ b _ _ c.in-Ok.sources _ c.finish.result w (c.in-Ok-report.ensures _ w.files) (subst (λ last. Finishes last (g.K.Sink.written c.args.out.now) (g.K.Sink.written c.finish.new.out) c.finish.result) c.as_slice.ensures.value c.finish.ensures.end)

pub returns-clause-checks : goal.returns-clause-checks
returns-clause-checks g c = λ b h. checks_no_memory _ b _ c.in-Ok.sources (c.in-Ok.ensures.gathered b h)
