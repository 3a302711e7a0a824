use Rattle.std.proofs.Common.{◌≡◌, ◌∙◌, ◌++◌, ◌∷◌, [], ap, subst, sym}
use Rattle.std.proofs.lemmas.Result.{IfOk-weaker}
use Rattle.lp_events.specs.declared.out.Out.TheVariants as outs
use Rattle.lp_values.specs.declared.value.Value.TheVariants as values
use Rattle.lp_calling.specs.declared.job.Applied.TheVariants as applies
use Rattle.lp_calling.specs.declared.job.Question.TheVariants as questions
use Rattle.lp_calling.specs.declared.job.Stage.TheVariants as stages
use Rattle.lp_calling.specs.declared.job.Step.TheVariants as steps
use Rattle.lp_efuns.proofs.Enabled.{row_there}
use Rattle.lp_calling.specs.Going.{IsAskedThere, StageGoes}
use Rattle.lp_calling.proofs.Telling.{connection_told, ends_as, tell_asks}
use Rattle.lp_calling.proofs.messages.tell_live.Goals as goal

pub returns-in_ok-copy-in-Some-clause-goes : goal.returns-in_ok-copy-in-Some-clause-goes
returns-in_ok-copy-in-Some-clause-goes c =
    let a = c.args in
    IfOk-weaker c.tell_out.result _ _
    (λ r k. λ turn. ends_as r a.efun (stages.Tell a.o a.text.now) a.low a.live.now c.tell_out.new.live turn a.stack.now.items c.tell_out.new.stack.items a.budget.now c.tell_out.new.budget (k.1 turn)
    (connection_told a.efun a.o a.text.now a.live.now c.tell_out.new.live turn a.budget.now c.in-Some.number c.requires.live c.in-Some.ensures
    (k.0 ∙ ap (λ t. record a.live.now { outputs = a.live.now.outputs ++ outs.Text c.in-Some.number t ∷ [] }) c.in_ok-copy-in-Some.ensures))) c.tell_out.ensures.told

pub returns-in-None-clause-goes : goal.returns-in-None-clause-goes
returns-in-None-clause-goes c =
    let a = c.args in
    IfOk-weaker c.ask_tell.result (λ r. (r ≡ steps.Asks (questions.Apply a.o applies.CatchTell) 1) × (c.ask_tell.new.stack.items ≡ a.stack.now.items ++ values.Str a.text.now ∷ [])) _
    (λ r k. λ turn. subst (λ r. StageGoes r a.efun (stages.Tell a.o a.text.now) a.low a.live.now turn a.stack.now.items a.budget.now a.live.now turn c.ask_tell.new.stack.items a.budget.now) (sym k.0)
    (tell_asks a.efun a.o a.text.now a.low a.stack.now.items c.ask_tell.new.stack.items a.live.now turn a.budget.now c.requires.low c.requires.live c.in-None.ensures k.1)) c.ask_tell.ensures.asks

pub returns-in-None-clause-closed : goal.returns-in-None-clause-closed
returns-in-None-clause-closed c = c.requires.fit.closed

pub returns-in-None-clause-asked : goal.returns-in-None-clause-asked
returns-in-None-clause-asked c =
    let a = c.args in
    IfOk-weaker c.ask_tell.result (λ r. (r ≡ steps.Asks (questions.Apply a.o applies.CatchTell) 1) × (c.ask_tell.new.stack.items ≡ a.stack.now.items ++ values.Str a.text.now ∷ [])) _
    (λ r k. subst (λ r. IsAskedThere a.live.now.objects r) (sym k.0) (row_there a.live.now.objects a.o c.requires.live)) c.ask_tell.ensures.asks
