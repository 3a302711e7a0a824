use Rattle.std.proofs.Common.{◌∙◌, ap, codes, length, arith}
use Rattle.lp_events.specs.Script.{spelling}
use Rattle.lp_script.proofs.PutLemmas.{Puts-same}
use Rattle.lp_script.proofs.Numerals.{counted_pieces}
use Rattle.lp_recording.proofs.put.put_file.Goals as goal

pub returns : goal.returns
unfolding spelling
returns g c =
    Puts-same _ _ _ _ _ (counted_pieces (codes "file ") _ _ (codes " ") _ (codes "\n") c.args.file.now.bytes _ (omega (arith, c.as_slice-bytes.type_inv, ap length c.as_slice-bytes.ensures))
    (c.as_bytes-path.ensures.value ∙ c.as_str.ensures) c.as_slice-bytes.ensures (c.as_bytes-len.ensures.value ∙ c.format.ensures.text)) c.put_pieces.ensures
