use Rattle.std.proofs.Common.{ap, ◌∙◌, map}
use Rattle.std.proofs.lemmas.Result.{IfOk-weaker}
use Rattle.lp_timers.specs.Index.{all_in}
use Rattle.lp_timers.specs.Timers.{due_at}
use Rattle.lp_timers.proofs.DueLemmas.{due_is}
use Rattle.lp_timers.proofs.call_outs.CallOuts.due.Goals as goal

pub returns : goal.returns
returns c = IfOk-weaker c.due.result _ _ (λ v h. h
    ∙ due_is c.args.t c.self.inside.next (all_in c.self.inside.index) c.self.inside.calls.entries c.self.invariant.rising c.self.invariant.below c.due.ensures.ordered c.self.invariant.all
    ∙ ap (λ w. map (λ x. x.number) (due_at c.args.t w.call_outs)) c.self.view_is) c.due.ensures.numbers
