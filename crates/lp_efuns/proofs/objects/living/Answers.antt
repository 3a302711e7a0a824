use Rattle.std.proofs.Common.{◌∙◌, None, Some, ap, sym}
use Rattle.lp_ops.specs.Integers.{truth}
use Rattle.lp_language.specs.World.{object_at}
use Rattle.lp_meaning.specs.EfunArguments.{object_arg, opened_args}
use Rattle.lp_meaning.specs.WorldEfuns.{Yields, deed}
use Rattle.lp_efuns.specs.Deeds.{bounded}
use Rattle.lp_efuns.proofs.Looking.{about_live, about_none, living_same, object_same}
use Rattle.lp_efuns.proofs.objects.living.Goals as goal

pub returns-in-Some-clause-looks : goal.returns-in-Some-clause-looks
unfolding deed
returns-in-Some-clause-looks c = λ caller turn g b d s sc h.
    about_live (object_arg (opened_args s c.args.args.now) 0) s (λ o. Yields (truth (object_at s.world o).is_living) s) c.in-Some.o c.truth.result
    (object_same g c.args.live.now turn b s c.args.args.now 0 (Some c.in-Some.o) h c.in-Some.ensures.value)
    (ap (λ t. Yields (truth t) s) (living_same g c.args.live.now turn b s c.in-Some.o h c.in-Some.ensures.live ∙ sym c.is_living.ensures) ∙ ap (λ e. Yields (bounded e) s) (sym c.truth.ensures))

pub returns-in-None-clause-looks : goal.returns-in-None-clause-looks
unfolding deed
returns-in-None-clause-looks c = λ caller turn g b d s sc h.
    about_none (object_arg (opened_args s c.args.args.now) 0) s (λ o. Yields (truth (object_at s.world o).is_living) s) c.int.result
    (object_same g c.args.live.now turn b s c.args.args.now 0 None h c.in-None.ensures.value) c.int.ensures
