use Rattle.std.proofs.Common.{◌≡◌, ◌∙◌, ◌++◌, ◌∷◌, [], ap, codes, refl, subst, sym}
use Rattle.std.proofs.lemmas.Result.{IfOk-weaker}
use Rattle.lp_values.specs.declared.value.Value.TheVariants as values
use Rattle.lp_efuns.proofs.Enabled.{row_there}
use Rattle.lp_calling.specs.declared.job.Question.TheVariants as questions
use Rattle.lp_calling.specs.declared.job.Stage.TheVariants as stages
use Rattle.lp_calling.specs.declared.job.Step.TheVariants as steps
use Rattle.lp_calling.specs.Going.{IsAskedThere, StageGoes}
use Rattle.lp_calling.proofs.Lists.{got_within, read_got}
use Rattle.lp_calling.proofs.Searches.{object_asks}
use Rattle.lp_calling.proofs.search.ask_object.Goals as goal

pub returns-clause-goes : goal.returns-clause-goes
returns-clause-goes c =
    let a = c.args.search.now in
    let p = c.requires.poised in
    let o = c.index.result.now in
    let same : p.object ≡ o = read_got a.objects.items a.done p.object o p.is c.index.ensures in
    IfOk-weaker c.ask_id.result (λ r. (r ≡ steps.Asks (questions.Other o (codes "id")) 1) × (c.ask_id.new.stack.items ≡ c.args.stack.now.items ++ values.Str a.text ∷ [])) _
    (λ r k. λ efun turn budget.
    subst (λ r. StageGoes r efun (stages.Seek a) c.args.low c.args.live.now turn c.args.stack.now.items budget c.args.live.now turn c.ask_id.new.stack.items budget)
    (sym (k.0 ∙ ap (λ x. steps.Asks (questions.Other x (codes "id")) 1) (sym same)))
    (object_asks efun a p.object (codes "id") c.args.low c.args.stack.now.items c.ask_id.new.stack.items c.args.live.now turn budget c.requires.low p.is (got_within a.objects.items a.done p.object p.is) p.lives refl k.1))
    c.ask_id.ensures.asks

pub returns-clause-asked : goal.returns-clause-asked
returns-clause-asked c =
    let a = c.args.search.now in
    let p = c.requires.poised in
    let o = c.index.result.now in
    let same : p.object ≡ o = read_got a.objects.items a.done p.object o p.is c.index.ensures in
    IfOk-weaker c.ask_id.result (λ r. (r ≡ steps.Asks (questions.Other o (codes "id")) 1) × (c.ask_id.new.stack.items ≡ c.args.stack.now.items ++ values.Str a.text ∷ [])) _
    (λ r k. subst (λ r. IsAskedThere c.args.live.now.objects r) (sym (k.0 ∙ ap (λ x. steps.Asks (questions.Other x (codes "id")) 1) (sym same))) (row_there c.args.live.now.objects p.object p.lives)) c.ask_id.ensures.asks
