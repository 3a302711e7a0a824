use Rattle.std.proofs.Common.{◌≡◌, ◌∙◌, ◌++◌, ◌∷◌, [], ap, subst, sym}
use Rattle.std.proofs.lemmas.Result.{IfOk-weaker}
use Rattle.lp_meaning.specs.MovesAndCommands.{argument_value}
use Rattle.lp_commanding.specs.declared.job.Step.TheVariants as steps
use Rattle.lp_commanding.specs.Going.{Goes, IsAskedThere}
use Rattle.lp_commanding.specs.Jobs.{actions_left}
use Rattle.lp_commanding.specs.Trying.{actions_in, question_of}
use Rattle.lp_commanding.proofs.Told.{action_asked, giver_there}
use Rattle.lp_commanding.proofs.next.ask_or_tell.Goals as goal

pub returns-in-Some-clause-goes : goal.returns-in-Some-clause-goes
returns-in-Some-clause-goes c =
    let a = c.args in
    let q = c.in-Some.question in
    IfOk-weaker c.ask.result (λ r. (r ≡ steps.Asks q) × (c.ask.new.stack.items ≡ a.stack.now.items ++ argument_value a.job.now.argument ∷ [])) _
    (λ r k. subst (λ r. Goes r a.job.now a.live.now a.turn.now a.stack.now.items a.job.now a.live.now a.turn.now c.ask.new.stack.items) (sym k.0)
    (action_asked a.job.now a.live.now a.turn.now a.stack.now.items c.ask.new.stack.items q c.requires.untold c.requires.next
    (sym c.in-Some.is ∙ c.in_ok-question.ensures a.job.now.holder ∙ ap (λ l. question_of (actions_in a.job.now.holder l)) c.as_slice.ensures.value) k.1)) c.ask.ensures.asks

pub returns-in-Some-clause-asked : goal.returns-in-Some-clause-asked
returns-in-Some-clause-asked c =
    let a = c.args in
    let q = c.in-Some.question in
    IfOk-weaker c.ask.result (λ r. (r ≡ steps.Asks q) × (c.ask.new.stack.items ≡ a.stack.now.items ++ argument_value a.job.now.argument ∷ [])) _
    (λ r k. subst (λ r. IsAskedThere a.live.now.objects r) (sym k.0)
    (giver_there a.live.now (actions_left a.job.now) q (sym c.in-Some.is ∙ c.in_ok-question.ensures a.job.now.holder ∙ ap (λ l. question_of (actions_in a.job.now.holder l)) c.as_slice.ensures.value) c.requires.next.giver)) c.ask.ensures.asks
