use Rattle.lp_text.proofs.PieceLemmas.{first}
use Rattle.lp_text.proofs.pieces.law_first.Goals as goal

pub returns : goal.returns
returns c = first
