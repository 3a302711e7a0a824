use Rattle.std.proofs.Common.{None, Some}
use Rattle.lp_places.specs.Places.{shadowing}
use Rattle.lp_meaning.specs.EfunArguments.{object_arg, opened_args}
use Rattle.lp_meaning.specs.WorldEfuns.{answers_object, deed}
use Rattle.lp_efuns.proofs.Looking.{about_live, about_none, answered, object_same}
use Rattle.lp_efuns.proofs.places.query_shadowing.Goals as goal

pub returns-in-Some-clause-looks : goal.returns-in-Some-clause-looks
unfolding deed
returns-in-Some-clause-looks c = λ caller turn g b d s sc h.
    about_live (object_arg (opened_args s c.args.args.now) 0) s (λ o. answers_object (shadowing s.world.shadows o) s) c.in-Some.o c.object_effect.result
    (object_same g c.args.live.now turn b s c.args.args.now 0 (Some c.in-Some.o) h c.in-Some.ensures.value)
    (answered g c.args.live.now turn b s c.shadowing.result (shadowing s.world.shadows c.in-Some.o) c.object_effect.result h (c.shadowing.ensures s.world.places s.world.shadows h.stands.rest.places) c.object_effect.ensures.value)

pub returns-in-None-clause-looks : goal.returns-in-None-clause-looks
unfolding deed
returns-in-None-clause-looks c = λ caller turn g b d s sc h.
    about_none (object_arg (opened_args s c.args.args.now) 0) s (λ o. answers_object (shadowing s.world.shadows o) s) c.int.result
    (object_same g c.args.live.now turn b s c.args.args.now 0 None h c.in-None.ensures.value) c.int.ensures
