use Rattle.std.proofs.Common.{ap, ◌∙◌}
use Rattle.std.proofs.lemmas.Result.{IfOk-weaker}
use Rattle.lp_timers.specs.Lines.{due_objects}
use Rattle.lp_timers.specs.Timers.{watched_at}
use Rattle.lp_timers.specs.Timing.{Timing, watch_kind}
use Rattle.lp_timers.proofs.TimingLemmas.{watches_due}
use Rattle.lp_timers.proofs.timers.Timers.watched.Goals as goal

pub returns : goal.returns
returns c =
    IfOk-weaker c.due.result _ _ (λ v h. h ∙ ap (λ k. due_objects k c.args.t c.self.inside.moments.lines) c.of.ensures ∙ watches_due c.args.kind c.args.t c.self.inside.moments.lines
    ∙ ap (λ (x : Timing). watched_at c.args.t (watch_kind c.args.kind) x.watches) c.self.view_is) c.due.ensures
