use Rattle.lp_keeping.proofs.Dropped.{have_gone}
use Rattle.lp_keeping.proofs.dropping.drop_by.Goals as goal

pub returns-clause-gone : goal.returns-clause-gone
returns-clause-gone c =
    have_gone c.args.live.now.objects c.args.live.now.versions c.drop_unmarked.new.live.versions c.args.marks.now c.need_all.new.marks c.settle.new.marks c.requires.unmarked c.need_all.ensures c.settle.ensures c.drop_unmarked.ensures.versions
