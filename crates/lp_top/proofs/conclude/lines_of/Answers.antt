use Rattle.lp_top.proofs.conclude.lines_of.Goals as goal

pub returns-in-Ok : goal.returns-in-Ok
returns-in-Ok c = (c.in_ok-report.report, c.in_ok-report.ensures, rw c.new-lines.ensures.items at c.in-Ok.ensures)
