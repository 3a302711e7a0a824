use Rattle.std.proofs.Common.{◌≡◌, ◌∙◌, None, Some, [], ap, option_map, sym, unwrap_or}
use Rattle.std.proofs.lemmas.Result.{IfOk-weaker}
use Rattle.lp_instr.specs.declared.efun.Efun.TheVariants as efuns
use Rattle.lp_language.specs.World.{object_at}
use Rattle.lp_meaning.specs.EfunArguments.{bad, opened_args}
use Rattle.lp_meaning.specs.WorldEfuns.{Yields, deed, object_or_this}
use Rattle.lp_meaning.specs.WorldSteps.{load_name}
use Rattle.lp_efuns.specs.Deeds.{bounded}
use Rattle.std.specs.Str.{chars}
use Rattle.lp_values.specs.declared.value.Value.TheVariants.{Str}
use Rattle.lp_ops.specs.declared.effect.Effect.TheVariants.{Gives}
use Rattle.lp_ops.specs.Operators.{text}
use Rattle.lp_efuns.proofs.Looking.{about_nothing, about_object, name_same, subject_same}
use Rattle.lp_efuns.proofs.objects.load_name.Goals as goal

pub returns-in-Some-clause-looks : goal.returns-in-Some-clause-looks
unfolding deed
returns-in-Some-clause-looks c =
    IfOk-weaker c.load_name_effect.result (λ e. e ≡ Gives (Str (load_name (unwrap_or (option_map (λ s. chars s.now) c.name.result) [])))) _
    (λ e q. λ turn g b d s sc h. about_object efuns.LoadName 1 (object_or_this d s (opened_args s c.args.args.now) 0) s (λ o. Yields (text (load_name (object_at s.world o).name)) s) c.in-Some.o e
    (subject_same g c.args.live.now turn b s c.args.caller.now d c.args.args.now 0 (Some c.in-Some.o) h sc c.in-Some.ensures.value)
    (ap (λ t. Yields (text (load_name t)) s) (name_same g c.args.live.now turn b s c.in-Some.o (option_map (λ s. chars s.now) c.name.result) h c.in-Some.ensures.live c.name.ensures) ∙ ap (λ e. Yields (bounded e) s) (sym q))) c.load_name_effect.ensures

pub returns-in-None-clause-looks : goal.returns-in-None-clause-looks
unfolding deed
returns-in-None-clause-looks c =
    IfOk-weaker c.bad.result (λ e. e ≡ bad efuns.LoadName 1) _
    (λ e q. λ turn g b d s sc h. about_nothing efuns.LoadName 1 (object_or_this d s (opened_args s c.args.args.now) 0) s (λ o. Yields (text (load_name (object_at s.world o).name)) s) e
    (subject_same g c.args.live.now turn b s c.args.caller.now d c.args.args.now 0 None h sc c.in-None.ensures.value) q) c.bad.ensures
