use Rattle.std.proofs.Common.{sym, ◌∙◌, ap}
use Rattle.std.specs.Char.{encode_utf8}
use Rattle.std.specs.Str.{encode_utf8_all}
use Rattle.std.proofs.lemmas.List.{append-nil}
use Rattle.std.proofs.lemmas.Result.{err_from_is_err_and}
use Rattle.lp_script.proofs.PutLemmas.{Puts-none}
use Rattle.lp_recording.proofs.Each.{chars_joined, each_next, each_stop, each_all}
use Rattle.lp_recording.proofs.put.put_chars.Goals as goal

pub loop-c-init : goal.loop-c-init
loop-c-init g c = Puts-none _

pub returns-in_err-put : goal.returns-in_err-put
returns-in_err-put g c =
    let p = err_from_is_err_and c.from_residual.result c.from_residual.ensures.1 in
    rw (p.1, p.2) (each_stop encode_utf8_all chars_joined _ _ _ _ c.args.chars.now c.loop-c.c-index c.c-item.result _ c.loop-c-test.true (c.as_bytes.ensures.value ∙ c.encode_utf8.ensures.value ∙ ap encode_utf8 c.c-item.is ∙ sym (append-nil _)) c.loop-c.invariant c.in_err-put.ensures)

pub loop-c-preserved : goal.loop-c-preserved
loop-c-preserved g c = each_next encode_utf8_all chars_joined _ _ _ c.args.chars.now c.loop-c.c-index c.c-item.result _ c.loop-c-test.true (c.as_bytes.ensures.value ∙ c.encode_utf8.ensures.value ∙ ap encode_utf8 c.c-item.is ∙ sym (append-nil _)) c.loop-c.invariant c.in_ok-put.ensures

pub returns : goal.returns
returns g c = each_all encode_utf8_all _ _ _ _ c.loop-c-test.false c.loop-c.invariant
