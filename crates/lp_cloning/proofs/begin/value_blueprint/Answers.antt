use Rattle.std.proofs.Common.{◌∙◌, ap, sym, subst}
use Rattle.std.specs.Str.{chars}
use Rattle.std.specs.String.{string_bytes}
use Rattle.lp_meaning.specs.WorldSteps.{as_name}
use Rattle.lp_targets.proofs.Lookups.{if_ok}
use Rattle.lp_cloning.specs.Arguments.{NamesBlueprint}
use Rattle.lp_cloning.proofs.Arguing.{text_named}
use Rattle.lp_cloning.proofs.begin.value_blueprint.Goals as goal

pub returns-in-Str : goal.returns-in-Str
returns-in-Str c = if_ok c.as_name.result (λ s e. subst (λ v. NamesBlueprint c.args.live.now v (chars (string_bytes s))) (sym c.in-Str.is) (text_named c.args.live.now c.in-Str.t (chars (string_bytes s)) (e ∙ ap as_name c.as_slice.ensures))) c.as_name.ensures

pub returns-in-Obj : goal.returns-in-Obj
returns-in-Obj c = if_ok c.object_blueprint.result (λ s h. subst (λ v. NamesBlueprint c.args.live.now v (chars (string_bytes s))) (sym c.in-Obj.is) h) c.object_blueprint.ensures
