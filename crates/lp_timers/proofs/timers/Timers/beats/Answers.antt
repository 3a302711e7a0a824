use Rattle.std.proofs.Common.{ap, ◌∙◌}
use Rattle.std.proofs.lemmas.Result.{IfOk-weaker}
use Rattle.lp_timers.specs.Timers.{beats_at}
use Rattle.lp_timers.specs.Timing.{Timing}
use Rattle.lp_timers.proofs.TimingLemmas.{beats_due}
use Rattle.lp_timers.proofs.timers.Timers.beats.Goals as goal

pub returns : goal.returns
returns c = IfOk-weaker c.due.result _ _ (λ v h. h ∙ beats_due c.args.t c.self.inside.moments.lines ∙ ap (λ (x : Timing). beats_at c.args.t x.beats) c.self.view_is) c.due.ensures
