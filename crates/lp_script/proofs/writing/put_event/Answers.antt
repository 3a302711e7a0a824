use Rattle.std.proofs.Common.{◌∙◌, ap, codes, length, arith}
use Rattle.lp_events.specs.Script.{event_spelling}
use Rattle.lp_script.proofs.PutLemmas.{Puts-same}
use Rattle.lp_script.proofs.Numerals.{decimal-numeral, number_pieces, counted_pieces, name_pieces}
use Rattle.lp_script.proofs.writing.put_event.Goals as goal

pub returns-in-Connect : goal.returns-in-Connect
unfolding event_spelling
returns-in-Connect g c = rw (c.in-Connect.is) (Puts-same _ _ _ _ _ (number_pieces (codes "connect ") (codes "\n") _ c.in-Connect.k (omega arith) (c.as_bytes.ensures.value ∙ c.format.ensures.text)) c.put_pieces.ensures)

pub returns-in-Gone : goal.returns-in-Gone
unfolding event_spelling
returns-in-Gone g c = rw (c.in-Gone.is) (Puts-same _ _ _ _ _ (number_pieces (codes "gone ") (codes "\n") _ c.in-Gone.k (omega arith) (c.as_bytes-in-Gone.ensures.value ∙ c.format-in-Gone.ensures.text)) c.put_pieces-in-Gone.ensures)

pub returns-in-Tick : goal.returns-in-Tick
unfolding event_spelling
returns-in-Tick g c = rw (c.in-Tick.is) (Puts-same _ _ _ _ _ (number_pieces (codes "tick ") (codes "\n") _ c.in-Tick.moment (omega arith) (c.as_bytes-in-Tick.ensures.value ∙ c.format-in-Tick.ensures.text)) c.put_pieces-in-Tick.ensures)

pub returns-in-Line : goal.returns-in-Line
unfolding event_spelling
returns-in-Line g c =
    rw (c.in-Line.is) (Puts-same _ _ _ _ _ (counted_pieces (codes "line ") _ _ (codes " ") _ (codes "\n") c.in-Line.bytes _ (omega (arith, c.as_slice-bytes.type_inv, ap length c.as_slice-bytes.ensures))
    (c.as_bytes-k.ensures.value ∙ c.format-in-Line.ensures.text ∙ decimal-numeral c.in-Line.k (omega arith)) c.as_slice-bytes.ensures (c.as_bytes-len.ensures.value ∙ c.format-in-Line-2.ensures.text)) c.put_pieces-in-Line.ensures)

pub returns-in-Reload : goal.returns-in-Reload
unfolding event_spelling
returns-in-Reload g c =
    rw (c.in-Reload.is) (Puts-same _ _ _ _ _ (counted_pieces (codes "reload ") _ _ (codes " ") _ (codes "\n") c.in-Reload.bytes _ (omega (arith, c.as_slice-bytes-in-Reload.type_inv, ap length c.as_slice-bytes-in-Reload.ensures))
    (c.as_bytes-path.ensures.value ∙ c.as_str.ensures) c.as_slice-bytes-in-Reload.ensures (c.as_bytes-len-in-Reload.ensures.value ∙ c.format-in-Reload.ensures.text)) c.put_pieces-in-Reload.ensures)

pub returns-in-Swap : goal.returns-in-Swap
unfolding event_spelling
returns-in-Swap g c = rw (c.in-Swap.is) (Puts-same _ _ _ _ _ (name_pieces (codes "swap ") c.in-Swap.name _ (codes "\n") (c.as_bytes-in-Swap.ensures.value ∙ c.as_str-in-Swap.ensures)) c.put_pieces-in-Swap.ensures)
