use Rattle.lp_encoding.proofs.Main.{prefix_free}
use Rattle.lp_encoding.proofs.program.law_prefix_free.Goals as goal

pub returns : goal.returns
returns c = prefix_free c.law_numbers.ensures
