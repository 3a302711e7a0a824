use Rattle.std.proofs.Common.{ap, ◌∙◌}
use Rattle.lp_timers.specs.Lines.{has_line}
use Rattle.lp_timers.specs.Timers.{is_watched}
use Rattle.lp_timers.specs.Timing.{Timing, watch_kind}
use Rattle.lp_timers.proofs.TimingLemmas.{watches_has}
use Rattle.lp_timers.proofs.timers.Timers.is_watched.Goals as goal

pub returns : goal.returns
returns c =
    c.has.ensures ∙ ap (λ k. has_line c.self.inside.moments.lines k c.args.ob) c.of.ensures ∙ watches_has c.args.ob c.args.kind c.self.inside.moments.lines
    ∙ ap (λ (x : Timing). is_watched x.watches (watch_kind c.args.kind) c.args.ob) c.self.view_is
