use Rattle.std.proofs.Common.{◌∙◌, codes, arith}
use Rattle.std.proofs.lemmas.Result.{err_from_is_err_and}
use Rattle.lp_events.specs.Transcript.{output_spelling}
use Rattle.lp_script.proofs.BlockLemmas.{to_parts, first_of_three, second_of_three, all_of_three}
use Rattle.lp_script.proofs.block.put_run.Goals as goal

pub returns-in_err-put_pieces : goal.returns-in_err-put_pieces
unfolding output_spelling
returns-in_err-put_pieces g c =
    let p = err_from_is_err_and c.from_residual.result c.from_residual.ensures.1 in
    rw (p.1, p.2) (first_of_three _ _ _ _ _ (codes "\n") _ (to_parts (codes "to ") (codes " ") (codes "\n") _ _ _ c.args.k c.texts_len.result (omega arith) (omega arith) (c.as_bytes-k.ensures.value ∙ c.format.ensures.text) (c.as_bytes-len.ensures.value ∙ c.format-2.ensures.text) c.texts_len.ensures) c.in_err-put_pieces.ensures)

pub returns-in_err-put_texts : goal.returns-in_err-put_texts
unfolding output_spelling
returns-in_err-put_texts g c =
    let p = err_from_is_err_and c.from_residual-in_err-put_texts.result c.from_residual-in_err-put_texts.ensures.1 in
    rw (p.1, p.2) (second_of_three _ _ _ _ _ _ (codes "\n") _ (to_parts (codes "to ") (codes " ") (codes "\n") _ _ _ c.args.k c.texts_len.result (omega arith) (omega arith) (c.as_bytes-k.ensures.value ∙ c.format.ensures.text) (c.as_bytes-len.ensures.value ∙ c.format-2.ensures.text) c.texts_len.ensures) c.in_ok-put_pieces.ensures c.in_err-put_texts.ensures)

pub returns : goal.returns
unfolding output_spelling
returns g c =
    all_of_three _ _ _ _ _ _ _ _ _ (to_parts (codes "to ") (codes " ") (codes "\n") _ _ _ c.args.k c.texts_len.result (omega arith) (omega arith) (c.as_bytes-k.ensures.value ∙ c.format.ensures.text) (c.as_bytes-len.ensures.value ∙ c.format-2.ensures.text) c.texts_len.ensures) c.in_ok-put_pieces.ensures c.in_ok-put_texts.ensures c.put.ensures
