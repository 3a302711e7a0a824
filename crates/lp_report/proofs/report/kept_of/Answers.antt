use Rattle.lp_report.proofs.Kept.{kept_is}
use Rattle.lp_report.proofs.report.kept_of.Goals as goal

pub returns : goal.returns
returns c = kept_is c.args.live.now c.args.needed.now c.mark_live.new.marks c.count_kept.result c.requires c.mark_live.ensures c.count_kept.ensures.all c.count_kept.ensures.out
