use Rattle.std.proofs.Common.{◌≡◌, ◌∙◌, ap, chars, subst, sym}
use Rattle.std.proofs.lemmas.Result.{IfOk-weaker}
use Rattle.lp_meaning.specs.WorldSteps.{as_name}
use Rattle.lp_calling.specs.Moving.{ActsAs, unnamed_stage}
use Rattle.lp_calling.proofs.Moves.{named_acts, unnamed_acts}
use Rattle.lp_calling.proofs.moving.named_stage.Goals as goal

pub returns-in-Some-clause-acts : goal.returns-in-Some-clause-acts
returns-in-Some-clause-acts c =
    let a = c.args in
    subst (λ st. ActsAs a.live.now a.args.now st) (sym c.move_stage.ensures.stage)
    (named_acts a.live.now a.args.now (chars c.as_str.result.now) c.requires (λ l cells. ap chars c.as_str.ensures.value ∙ c.in_ok-name.ensures ∙ ap as_name (c.text_at.ensures l cells)) c.in-Some.o c.item_in.result c.if_live.result
    c.in-Some.ensures c.item_in.ensures c.if_live.ensures)

pub returns-clause-acts : goal.returns-clause-acts
returns-clause-acts c =
    let a = c.args in
    let name = chars c.as_str.result.now in
    let same : c.as_str-in-None.result.now ≡ c.as_str.result.now = c.as_str-in-None.ensures.value ∙ sym c.as_str.ensures.value in
    IfOk-weaker c.unnamed_stage.result _ _
    (λ st k. subst (λ st. ActsAs a.live.now a.args.now st) (sym (k ∙ ap (λ n. unnamed_stage (chars n)) same))
    (unnamed_acts a.live.now a.args.now name c.requires (λ l cells. ap chars c.as_str.ensures.value ∙ c.in_ok-name.ensures ∙ ap as_name (c.text_at.ensures l cells)) (λ objects st. sym c.in-None.is ∙ c.find.ensures objects st))) c.unnamed_stage.ensures.stage
