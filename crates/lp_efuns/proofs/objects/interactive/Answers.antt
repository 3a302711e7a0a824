use Rattle.std.proofs.Common.{◌≡◌, ◌∙◌, None, Some, ap, is_some, sym}
use Rattle.std.proofs.lemmas.Result.{IfOk-weaker}
use Rattle.lp_instr.specs.declared.efun.Efun.TheVariants as efuns
use Rattle.lp_meaning.specs.EfunArguments.{bad, opened_args}
use Rattle.lp_meaning.specs.WorldEfuns.{Yields, deed, object_or_this}
use Rattle.lp_efuns.specs.Deeds.{bounded}
use Rattle.lp_ops.specs.Integers.{truth}
use Rattle.lp_meaning.specs.WorldSteps.{is_connected}
use Rattle.lp_efuns.proofs.Looking.{about_nothing, about_object, connection_same, subject_same}
use Rattle.lp_efuns.proofs.objects.interactive.Goals as goal

pub returns-in-Some-clause-looks : goal.returns-in-Some-clause-looks
unfolding deed
returns-in-Some-clause-looks c = λ turn g b d s sc h.
    about_object efuns.Interactive 1 (object_or_this d s (opened_args s c.args.args.now) 0) s (λ o. Yields (truth (is_connected s.world o)) s) c.in-Some.o c.truth.result
    (subject_same g c.args.live.now turn b s c.args.caller.now d c.args.args.now 0 (Some c.in-Some.o) h sc c.in-Some.ensures.value)
    (ap (λ k. Yields (truth (is_some k)) s) (connection_same g c.args.live.now turn b s c.in-Some.o h ∙ sym c.of.ensures) ∙ ap (λ t. Yields (truth t) s) (sym c.is_some.ensures) ∙ ap (λ e. Yields (bounded e) s) (sym c.truth.ensures))

pub returns-in-None-clause-looks : goal.returns-in-None-clause-looks
unfolding deed
returns-in-None-clause-looks c =
    IfOk-weaker c.bad.result (λ e. e ≡ bad efuns.Interactive 1) _
    (λ e q. λ turn g b d s sc h. about_nothing efuns.Interactive 1 (object_or_this d s (opened_args s c.args.args.now) 0) s (λ o. Yields (truth (is_connected s.world o)) s) e
    (subject_same g c.args.live.now turn b s c.args.caller.now d c.args.args.now 0 None h sc c.in-None.ensures.value) q) c.bad.ensures
