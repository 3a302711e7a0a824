use Rattle.lp_top.proofs.Concluding.{concludes-lines, concludes-none, concludes-plain}
use Rattle.lp_top.proofs.conclude.conclude.Goals as goal

pub returns-then-not-asks_report-clause-end : goal.returns-then-not-asks_report-clause-end
returns-then-not-asks_report-clause-end g c = concludes-plain c.args.asks_report c.args.live.now _ _ c.finish.result c.if-not-asks_report.true c.finish.ensures.end

pub returns-in-Ok-clause-end : goal.returns-in-Ok-clause-end
returns-in-Ok-clause-end g c = concludes-lines c.args.asks_report c.args.live.now c.in-Ok.lines.items _ _ c.finish-in-Ok.result c.if-not-asks_report.false c.in-Ok.ensures (rw c.as_slice.ensures.value at c.finish-in-Ok.ensures.end)

pub returns-in-Err-clause-end : goal.returns-in-Err-clause-end
returns-in-Err-clause-end g c = concludes-none c.args.asks_report c.args.live.now _
