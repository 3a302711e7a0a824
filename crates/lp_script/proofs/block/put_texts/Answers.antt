use Rattle.std.proofs.Common.{◌∙◌, ap}
use Rattle.std.specs.Str.{encode_utf8_all}
use Rattle.lp_script.specs.Runs.{text_of}
use Rattle.std.proofs.lemmas.Result.{err_from_is_err_and}
use Rattle.lp_script.proofs.BlockLemmas.{texts_stop, texts_next}
use Rattle.lp_script.proofs.block.put_texts.Goals as goal

pub returns-in_err-put_chars : goal.returns-in_err-put_chars
returns-in_err-put_chars g c =
    let p = err_from_is_err_and c.from_residual.result c.from_residual.ensures.1 in
    rw (p.1, p.2) (texts_stop _ _ _ _ _ _ _ _ c.loop-output-test.true (ap encode_utf8_all (c.text_of.ensures ∙ ap text_of c.output-item.is)) c.loop-output.invariant c.in_err-put_chars.ensures)

pub loop-output-preserved : goal.loop-output-preserved
loop-output-preserved g c = texts_next _ _ _ _ _ _ _ c.loop-output-test.true (ap encode_utf8_all (c.text_of.ensures ∙ ap text_of c.output-item.is)) c.loop-output.invariant c.in_ok-put_chars.ensures
