use Rattle.std.proofs.Common.{◌∙◌, codes, arith}
use Rattle.std.proofs.lemmas.Result.{err_from_is_err_and}
use Rattle.lp_events.specs.Transcript.{output_spelling}
use Rattle.lp_script.proofs.BlockLemmas.{log_parts, first_of_three, second_of_three, all_of_three}
use Rattle.lp_recording.proofs.put.put_log.Goals as goal

pub returns-in_err-put_pieces : goal.returns-in_err-put_pieces
unfolding output_spelling
returns-in_err-put_pieces g c =
    let p = err_from_is_err_and c.from_residual.result c.from_residual.ensures.1 in
    rw (p.1, p.2) (first_of_three _ _ _ _ _ (codes "\n") _ (log_parts (codes "log ") (codes "\n") _ _ c.utf8_len.result (omega (arith, c.utf8_len.ensures.small)) (c.as_bytes-len.ensures.value ∙ c.format.ensures.text) c.utf8_len.ensures.value) c.in_err-put_pieces.ensures)

pub returns-in_err-put_chars : goal.returns-in_err-put_chars
unfolding output_spelling
returns-in_err-put_chars g c =
    let p = err_from_is_err_and c.from_residual-in_err-put_chars.result c.from_residual-in_err-put_chars.ensures.1 in
    rw (p.1, p.2) (second_of_three _ _ _ _ _ _ (codes "\n") _ (log_parts (codes "log ") (codes "\n") _ _ c.utf8_len.result (omega (arith, c.utf8_len.ensures.small)) (c.as_bytes-len.ensures.value ∙ c.format.ensures.text) c.utf8_len.ensures.value) c.in_ok-put_pieces.ensures c.in_err-put_chars.ensures)

pub returns : goal.returns
unfolding output_spelling
returns g c =
    all_of_three _ _ _ _ _ _ _ _ _ (log_parts (codes "log ") (codes "\n") _ _ c.utf8_len.result (omega (arith, c.utf8_len.ensures.small)) (c.as_bytes-len.ensures.value ∙ c.format.ensures.text) c.utf8_len.ensures.value) c.in_ok-put_pieces.ensures c.in_ok-put_chars.ensures c.put.ensures
