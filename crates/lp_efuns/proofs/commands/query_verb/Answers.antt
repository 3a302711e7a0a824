use Rattle.std.proofs.Common.{◌≡◌, ◌-◌, None, Some, length, slice_get, subst}
use Rattle.lp_efuns.proofs.Commanded.{no_verb_looks, verb_looks}
use Rattle.lp_efuns.proofs.commands.query_verb.Goals as goal

pub returns-in_ok-copy-in-Some-clause-looks : goal.returns-in_ok-copy-in-Some-clause-looks
returns-in_ok-copy-in-Some-clause-looks c = λ caller vs.
    verb_looks caller vs c.args.live.now c.args.turn.now c.in-Some.command.now c.in_ok-copy-in-Some.field-0 (subst (λ l. Some c.in-Some.command.now ≡ slice_get l (length l - 1)) c.as_slice.ensures.value c.in-Some.ensures.value) c.in_ok-copy-in-Some.ensures

pub returns-in-None-clause-looks : goal.returns-in-None-clause-looks
returns-in-None-clause-looks c = λ caller vs. no_verb_looks caller vs c.args.live.now c.args.turn.now c.int.result (subst (λ l. None ≡ slice_get l (length l - 1)) c.as_slice.ensures.value c.in-None.ensures.value) c.int.ensures
