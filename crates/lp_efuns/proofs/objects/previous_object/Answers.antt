use mir.Val.{of_z, to_z}
use Rattle.std.proofs.Common.{◌≡◌, rules, w64, ◌∙◌, ap, reverse, sym}
use Rattle.lp_language.specs.Operations.{cells_of, living}
use Rattle.lp_meaning.specs.EfunArguments.{int_arg, opened_args}
use Rattle.lp_meaning.specs.WorldEfuns.{caller_at, deed}
use Rattle.lp_efuns.proofs.Looking.{answered}
use Rattle.lp_efuns.proofs.objects.previous_object.Goals as goal

pub returns-clause-looks : goal.returns-clause-looks
unfolding deed
returns-clause-looks c = λ turn g b d s sc h.
    let z : to_z w64 (of_z w64 c.int_at.result) ≡ c.int_at.result = search rules in
    answered g c.args.live.now turn b s c.caller_at.result (caller_at d.callers (int_arg (opened_args s c.args.args.now) 0)) c.object_effect.result h
    (c.caller_at.ensures ∙ ap (caller_at (reverse c.args.caller.now.callers.now)) (z ∙ c.int_at.ensures (living s) (cells_of s)) ∙ ap (λ cs. caller_at cs (int_arg (opened_args s c.args.args.now) 0)) (sym sc.callers)) c.object_effect.ensures.value
