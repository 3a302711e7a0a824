use Rattle.std.proofs.Common.{◌≡◌, ◌∙◌, ◌-◌, None, Some, codes, length, slice_get, subst, sym, unwrap_or}
use Rattle.std.proofs.lemmas.Result.{IfOk-weaker}
use Rattle.lp_commanding.proofs.Told.{fail_shown, no_fail_shown}
use Rattle.lp_commanding.proofs.telling.fail_text.Goals as goal

pub returns-in-Some : goal.returns-in-Some
returns-in-Some c =
    let cs = c.args.turn.now.commands.items in
    let at : Some c.in-Some.command.now ≡ slice_get cs (length cs - 1) = subst (λ l. Some c.in-Some.command.now ≡ slice_get l (length l - 1)) c.as_slice.ensures.value c.in-Some.ensures.value in
    IfOk-weaker c.shown.result (λ t. t ≡ unwrap_or c.in-Some.command.now.fail (codes "What?\n")) _ (λ t k. k ∙ sym (fail_shown cs c.in-Some.command.now at)) c.shown.ensures

pub returns-in-None : goal.returns-in-None
returns-in-None c =
    let cs = c.args.turn.now.commands.items in
    let none : None ≡ slice_get cs (length cs - 1) = subst (λ l. None ≡ slice_get l (length l - 1)) c.as_slice.ensures.value c.in-None.ensures.value in
    IfOk-weaker c.what.result (λ t. t ≡ codes "What?\n") _ (λ t k. k ∙ sym (no_fail_shown cs none)) c.what.ensures
