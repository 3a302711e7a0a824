use Rattle.lp_timers.proofs.TimingLemmas.{beat_moved}
use Rattle.lp_timers.proofs.timers.Timers.next_beat.Goals as goal

pub returns : goal.returns
returns c = rw (← c.self.view_is) (beat_moved c.self.inside.call_outs c.self.inside.moments c.set.new.self c.args.ob c.args.at c.set.ensures)
