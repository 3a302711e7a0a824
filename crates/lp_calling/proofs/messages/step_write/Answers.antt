use Rattle.std.proofs.Common.{◌∙◌, ◌++◌, ◌∷◌, [], ap}
use Rattle.std.proofs.lemmas.Result.{IfOk-weaker}
use Rattle.lp_events.specs.declared.out.Out.TheVariants as outs
use Rattle.lp_calling.specs.declared.job.Stage.TheVariants as stages
use Rattle.lp_calling.proofs.Telling.{ends_as, log_told, writes_as}
use Rattle.lp_calling.proofs.messages.step_write.Goals as goal

pub returns-in-Some-clause-goes : goal.returns-in-Some-clause-goes
returns-in-Some-clause-goes c =
    let a = c.args in
    IfOk-weaker c.step_tell.result _ _
    (λ r k. writes_as r a.efun c.in-Some.o a.text.now a.low a.live.now c.step_tell.new.live a.turn.now a.stack.now.items c.step_tell.new.stack.items a.budget.now c.step_tell.new.budget c.in-Some.ensures (k a.turn.now)) c.step_tell.ensures.goes

pub returns-in_ok-copy-in-None-clause-goes : goal.returns-in_ok-copy-in-None-clause-goes
returns-in_ok-copy-in-None-clause-goes c =
    let a = c.args in
    IfOk-weaker c.tell_out.result _ _
    (λ r k. ends_as r a.efun (stages.Write a.text.now) a.low a.live.now c.tell_out.new.live a.turn.now a.stack.now.items c.tell_out.new.stack.items a.budget.now c.tell_out.new.budget (k.1 a.turn.now)
    (log_told a.efun a.text.now a.live.now c.tell_out.new.live a.turn.now a.budget.now c.in-None.ensures
    (k.0 ∙ ap (λ t. record a.live.now { outputs = a.live.now.outputs ++ outs.Log t ∷ [] }) c.in_ok-copy-in-None.ensures))) c.tell_out.ensures.told
