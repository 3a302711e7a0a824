use Rattle.std.proofs.Common.{◌∙◌, ap, codes, length, arith}
use Rattle.std.proofs.lemmas.List.{append-nil}
use Rattle.lp_events.specs.Script.{spelling}
use Rattle.lp_script.proofs.PutLemmas.{Puts-same}
use Rattle.lp_script.proofs.Numerals.{head_pieces, counted_pieces}
use Rattle.lp_script.proofs.writing.put_item.Goals as goal

pub returns-in-Head : goal.returns-in-Head
unfolding spelling
returns-in-Head g c =
    rw (c.in-Head.is) (Puts-same _ _ _ _ _ (head_pieces (codes "mudscript 1 ") (codes " ") (codes "\n") _ _ c.in-Head.seed c.in-Head.moment (omega arith) (omega arith)
    (c.as_bytes-seed.ensures.value ∙ c.format.ensures.text) (c.as_bytes-moment.ensures.value ∙ c.format-in-Head.ensures.text)) c.put_pieces.ensures)

pub returns-in-File : goal.returns-in-File
unfolding spelling
returns-in-File g c =
    rw (c.in-File.is) (Puts-same _ _ _ _ _ (counted_pieces (codes "file ") _ _ (codes " ") _ (codes "\n") c.in-File.bytes _ (omega (arith, c.as_slice-bytes.type_inv, ap length c.as_slice-bytes.ensures))
    (c.as_bytes-path.ensures.value ∙ c.as_str.ensures) c.as_slice-bytes.ensures (c.as_bytes-len.ensures.value ∙ c.format-in-File.ensures.text)) c.put_pieces-in-File.ensures)

pub returns-in-Start : goal.returns-in-Start
unfolding spelling
returns-in-Start g c = rw (c.in-Start.is) (Puts-same _ _ _ _ _ (append-nil (codes "start\n")) c.put_pieces-in-Start.ensures)

pub returns-in-Event : goal.returns-in-Event
unfolding spelling
returns-in-Event g c = rw (c.in-Event.is) c.put_event.ensures

pub returns-in-End : goal.returns-in-End
unfolding spelling
returns-in-End g c = rw (c.in-End.is) (Puts-same _ _ _ _ _ (append-nil (codes "end\n")) c.put_pieces-in-End.ensures)
