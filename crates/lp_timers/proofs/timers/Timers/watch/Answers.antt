use Rattle.std.proofs.Common.{ap, ◌∙◌}
use Rattle.std.proofs.lemmas.Result.{IfOk-weaker}
use Rattle.lp_timers.proofs.TimingLemmas.{put_for, watch_begun}
use Rattle.lp_timers.proofs.timers.Timers.watch.Goals as goal

pub returns-clause-ok : goal.returns-clause-ok
returns-clause-ok c =
    rw (← c.self.view_is) (IfOk-weaker c.put.result _ _ (λ v e. watch_begun c.self.inside.call_outs c.self.inside.moments c.put.new.self c.args.ob c.args.kind c.args.at (e ∙ ap (λ k. put_for c.self.inside.moments c.args.ob k c.args.at) c.of.ensures)) c.put.ensures.ok)
