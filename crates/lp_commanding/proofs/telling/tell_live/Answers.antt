use Rattle.std.proofs.Common.{◌≡◌, ◌++◌, ◌∷◌, [], pos, refl, subst, sym, true}
use Rattle.std.proofs.lemmas.Result.{IfOk-weaker}
use Rattle.lp_values.specs.declared.value.Value.TheVariants as values
use Rattle.lp_events.specs.declared.out.Out.TheVariants as outs
use Rattle.lp_efuns.proofs.Enabled.{row_there}
use Rattle.lp_commanding.specs.declared.job.Question.TheVariants as questions
use Rattle.lp_commanding.specs.declared.job.Step.TheVariants as steps
use Rattle.lp_commanding.specs.Going.{Goes, IsAskedThere, IsPopped}
use Rattle.lp_commanding.proofs.Told.{catch_tell_asked, connected_stops}
use Rattle.lp_commanding.proofs.telling.tell_live.Goals as goal

pub returns-in-Some-clause-goes : goal.returns-in-Some-clause-goes
returns-in-Some-clause-goes c =
    let a = c.args in
    let t = c.tell_connection in
    IfOk-weaker t.result (λ r. (r ≡ steps.Ends (values.Int (pos 0))) × (t.new.live ≡ record a.live.now { outputs = a.live.now.outputs ++ outs.Text c.in-Some.number c.in_ok-text.text ∷ [] }) × IsPopped a.turn.now t.new.turn) _
    (λ r k. subst (λ r. Goes r a.job.now a.live.now a.turn.now a.stack.now.items a.job.now t.new.live t.new.turn a.stack.now.items) (sym k.0)
    (record {
      stack = refl;
      course = connected_stops a.job.now a.live.now t.new.live a.turn.now t.new.turn c.in-Some.number c.in_ok-text.text c.requires.untold c.requires.none c.requires.live c.in-Some.ensures c.in_ok-text.ensures k.1 k.2;
    })) t.ensures.told

pub returns-in-None-clause-goes : goal.returns-in-None-clause-goes
returns-in-None-clause-goes c =
    let a = c.args in
    let t = c.ask_tell in
    IfOk-weaker t.result (λ r. (r ≡ steps.Asks (questions.CatchTell a.job.now.holder)) × (t.new.stack.items ≡ a.stack.now.items ++ values.Str c.in_ok-text.text ∷ []) × (t.new.job ≡ record a.job.now { is_told = true })) _
    (λ r k. subst (λ r. Goes r a.job.now a.live.now a.turn.now a.stack.now.items t.new.job a.live.now a.turn.now t.new.stack.items) (sym k.0)
    (catch_tell_asked a.job.now t.new.job a.live.now a.turn.now a.stack.now.items t.new.stack.items c.in_ok-text.text c.requires.untold c.requires.none c.requires.live c.in-None.ensures c.in_ok-text.ensures k.1 k.2)) t.ensures.asks

pub returns-in-None-clause-asked : goal.returns-in-None-clause-asked
returns-in-None-clause-asked c =
    let a = c.args in
    let t = c.ask_tell in
    IfOk-weaker t.result (λ r. (r ≡ steps.Asks (questions.CatchTell a.job.now.holder)) × (t.new.stack.items ≡ a.stack.now.items ++ values.Str c.in_ok-text.text ∷ []) × (t.new.job ≡ record a.job.now { is_told = true })) _
    (λ r k. subst (λ r. IsAskedThere a.live.now.objects r) (sym k.0) (row_there a.live.now.objects a.job.now.holder c.requires.live)) t.ensures.asks
