use Rattle.lp_report.proofs.Kept.{reports}
use Rattle.lp_report.proofs.report.report_of.Goals as goal

pub returns : goal.returns
returns c = reports c.args.live.now c.kept_of-kept.result c.count_live.result c.count_out.result c.count_live.ensures c.count_out.ensures c.kept_of-kept.ensures
