use Rattle.std.proofs.Common.{ap, ◌∙◌}
use Rattle.lp_timers.specs.Lines.{lines_without}
use Rattle.lp_timers.proofs.TimingLemmas.{putting, watch_ended}
use Rattle.lp_timers.proofs.timers.Timers.unwatch.Goals as goal

pub returns : goal.returns
returns c =
    let p = c.self.inside.moments in
    rw (← c.self.view_is) (watch_ended c.self.inside.call_outs p c.remove.new.self c.args.ob c.args.kind (c.remove.ensures ∙ ap (λ k. putting p.next (lines_without p.lines k c.args.ob)) c.of.ensures))
