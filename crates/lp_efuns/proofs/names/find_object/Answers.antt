use Rattle.std.proofs.Common.{◌∙◌, ap}
use Rattle.std.specs.Str.{chars}
use Rattle.lp_language.specs.Operations.{cells_of, living}
use Rattle.lp_language.specs.World.{object_named}
use Rattle.lp_meaning.specs.EfunArguments.{opened_args, text_arg}
use Rattle.lp_meaning.specs.WorldEfuns.{deed}
use Rattle.lp_meaning.specs.WorldSteps.{as_name}
use Rattle.lp_efuns.proofs.Looking.{answered, found_same}
use Rattle.lp_efuns.proofs.names.find_object.Goals as goal

pub returns-clause-looks : goal.returns-clause-looks
unfolding deed
returns-clause-looks c = λ caller turn g b d s sc h.
    answered g c.args.live.now turn b s c.find.result (object_named s.world (as_name (text_arg (opened_args s c.args.args.now) 0))) c.object_effect.result h
    (found_same g c.args.live.now turn b s (as_name (text_arg (opened_args s c.args.args.now) 0)) (chars c.as_str.result.now) c.find.result h c.find.ensures
    (ap chars c.as_str.ensures.value ∙ c.in_ok-name.ensures ∙ ap as_name (c.text_at.ensures (living s) (cells_of s)))) c.object_effect.ensures.value
