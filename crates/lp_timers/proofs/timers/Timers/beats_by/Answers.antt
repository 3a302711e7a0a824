use Rattle.std.proofs.Common.{ap, ◌∙◌}
use Rattle.lp_timers.specs.Timers.{beats_by}
use Rattle.lp_timers.specs.Timing.{Timing}
use Rattle.lp_timers.proofs.TimingLemmas.{beats_has_by}
use Rattle.lp_timers.proofs.timers.Timers.beats_by.Goals as goal

pub returns : goal.returns
returns c = c.has_by.ensures ∙ beats_has_by c.args.ob c.args.t c.self.inside.moments.lines ∙ ap (λ (x : Timing). beats_by x.beats c.args.ob c.args.t) c.self.view_is
