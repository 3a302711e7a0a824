use Rattle.std.proofs.Common.{sym}
use Rattle.lp_timers.proofs.TimingLemmas.{all_ended}
use Rattle.lp_timers.proofs.timers.Timers.drop_of.Goals as goal

pub returns-in-None-clause-left : goal.returns-in-None-clause-left
returns-in-None-clause-left c =
    rw (← c.self.view_is) (all_ended c.self.inside.call_outs c.drop_of.new.self c.self.inside.moments c.remove.new.self c.remove-in-None.new.self c.remove-in-None-2.new.self c.args.ob
    (sym c.in-None.ensures.earliest) c.in-None.ensures.left c.remove.ensures c.remove-in-None.ensures c.remove-in-None-2.ensures)
