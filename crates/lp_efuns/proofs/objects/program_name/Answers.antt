use Rattle.std.proofs.Common.{◌≡◌, ◌∙◌, None, Some, ap, sym, unwrap_or}
use Rattle.std.proofs.lemmas.Result.{IfOk-weaker}
use Rattle.lp_instr.specs.declared.efun.Efun.TheVariants as efuns
use Rattle.lp_meaning.specs.EfunArguments.{bad, opened_args}
use Rattle.lp_meaning.specs.WorldEfuns.{Yields, deed, object_or_this}
use Rattle.lp_meaning.specs.WorldSteps.{version_of_object}
use Rattle.lp_efuns.specs.Deeds.{bounded}
use Rattle.lp_ops.specs.Operators.{text}
use Rattle.lp_world.proofs.Paths.{path_of_object}
use Rattle.lp_efuns.specs.Subjects.{path_of_row}
use Rattle.lp_efuns.proofs.Enabled.{live_row}
use Rattle.lp_efuns.proofs.Looking.{about_nothing, about_object, subject_same}
use Rattle.lp_efuns.proofs.objects.program_name.Goals as goal

pub returns-in-Some-clause-looks : goal.returns-in-Some-clause-looks
unfolding deed
returns-in-Some-clause-looks c =
    let live = c.args.live.now in
    let row = live_row live.objects c.in-Some.o c.in-Some.ensures.live in
    let at = ap (λ r. unwrap_or r None) row.1 in
    IfOk-weaker c.path_effect.result _ _
    (λ e q. λ turn g b d s sc h. about_object efuns.ProgramName 1 (object_or_this d s (opened_args s c.args.args.now) 0) s (λ o. Yields (text (version_of_object s.world o).path) s) c.in-Some.o e
    (subject_same g live turn b s c.args.caller.now d c.args.args.now 0 (Some c.in-Some.o) h sc c.in-Some.ensures.value)
    (ap (λ x. Yields (bounded x) s) (sym (q (version_of_object s.world c.in-Some.o).path
    (c.path_of.ensures ∙ ap (path_of_row live.versions) at ∙ path_of_object g.told g.programs live s.world c.in-Some.o row.0 h.stands c.requires.closed at))))) c.path_effect.ensures.value

pub returns-in-None-clause-looks : goal.returns-in-None-clause-looks
unfolding deed
returns-in-None-clause-looks c =
    IfOk-weaker c.bad.result (λ e. e ≡ bad efuns.ProgramName 1) _
    (λ e q. λ turn g b d s sc h. about_nothing efuns.ProgramName 1 (object_or_this d s (opened_args s c.args.args.now) 0) s (λ o. Yields (text (version_of_object s.world o).path) s) e
    (subject_same g c.args.live.now turn b s c.args.caller.now d c.args.args.now 0 None h sc c.in-None.ensures.value) q) c.bad.ensures
