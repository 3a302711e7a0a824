use Rattle.std.proofs.Common.{◌∙◌, codes, arith}
use Rattle.lp_events.specs.Transcript.{output_spelling}
use Rattle.lp_script.proofs.PutLemmas.{Puts-same}
use Rattle.lp_script.proofs.Numerals.{number_pieces}
use Rattle.lp_script.proofs.block.put_alone.Goals as goal

pub returns-in-Hide : goal.returns-in-Hide
unfolding output_spelling
returns-in-Hide g c = rw (c.in-Hide.is) (Puts-same _ _ _ _ _ (number_pieces (codes "hide ") (codes "\n") _ c.in-Hide.k (omega arith) (c.as_bytes.ensures.value ∙ c.format.ensures.text)) c.put_pieces.ensures)

pub returns-in-Show : goal.returns-in-Show
unfolding output_spelling
returns-in-Show g c = rw (c.in-Show.is) (Puts-same _ _ _ _ _ (number_pieces (codes "show ") (codes "\n") _ c.in-Show.k (omega arith) (c.as_bytes-in-Show.ensures.value ∙ c.format-in-Show.ensures.text)) c.put_pieces-in-Show.ensures)

pub returns-in-Close : goal.returns-in-Close
unfolding output_spelling
returns-in-Close g c = rw (c.in-Close.is) (Puts-same _ _ _ _ _ (number_pieces (codes "close ") (codes "\n") _ c.in-Close.k (omega arith) (c.as_bytes-in-Close.ensures.value ∙ c.format-in-Close.ensures.text)) c.put_pieces-in-Close.ensures)
