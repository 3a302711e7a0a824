use Rattle.std.proofs.Common.{◌≡◌, None, Some}
use Rattle.std.proofs.lemmas.Result.{IfOk-weaker}
use Rattle.lp_instr.specs.declared.efun.Efun.TheVariants as efuns
use Rattle.lp_meaning.specs.EfunArguments.{bad, opened_args}
use Rattle.lp_meaning.specs.WorldEfuns.{answers_object, deed, next_beside, object_or_this}
use Rattle.lp_efuns.proofs.Looking.{about_nothing, about_object, answered, subject_same}
use Rattle.lp_efuns.proofs.places.next_inventory.Goals as goal

pub returns-in-Some-clause-looks : goal.returns-in-Some-clause-looks
unfolding deed
returns-in-Some-clause-looks c = λ turn g b d s sc h.
    about_object efuns.NextInventory 1 (object_or_this d s (opened_args s c.args.args.now) 0) s (λ o. answers_object (next_beside s.world o) s) c.in-Some.o c.object_effect.result
    (subject_same g c.args.live.now turn b s c.args.caller.now d c.args.args.now 0 (Some c.in-Some.o) h sc c.in-Some.ensures.value)
    (answered g c.args.live.now turn b s c.next_beside.result (next_beside s.world c.in-Some.o) c.object_effect.result h (c.next_beside.ensures s.world h.stands.rest.places) c.object_effect.ensures.value)

pub returns-in-None-clause-looks : goal.returns-in-None-clause-looks
unfolding deed
returns-in-None-clause-looks c =
    IfOk-weaker c.bad.result (λ e. e ≡ bad efuns.NextInventory 1) _
    (λ e q. λ turn g b d s sc h. about_nothing efuns.NextInventory 1 (object_or_this d s (opened_args s c.args.args.now) 0) s (λ o. answers_object (next_beside s.world o) s) e
    (subject_same g c.args.live.now turn b s c.args.caller.now d c.args.args.now 0 None h sc c.in-None.ensures.value) q) c.bad.ensures
