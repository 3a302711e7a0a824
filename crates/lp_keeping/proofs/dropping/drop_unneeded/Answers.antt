use Rattle.lp_keeping.proofs.Kept.{closed_only, needed_only, stands_only}
use Rattle.lp_keeping.proofs.dropping.drop_unneeded.Goals as goal

pub returns-clause-needed : goal.returns-clause-needed
returns-clause-needed c = needed_only c.args.live.now c.drop_by.new.live c.drop_by.ensures.gone c.drop_by.ensures.only

pub returns-clause-world : goal.returns-clause-world
returns-clause-world c = stands_only c.args.live.now c.drop_by.new.live c.drop_by.ensures.gone c.drop_by.ensures.only

pub returns-clause-closed : goal.returns-clause-closed
returns-clause-closed c = closed_only c.args.live.now c.drop_by.new.live c.requires.closed c.drop_by.ensures.gone c.drop_by.ensures.only c.drop_by.ensures.room
