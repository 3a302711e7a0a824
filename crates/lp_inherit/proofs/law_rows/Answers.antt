use Rattle.lp_inherit.proofs.Meanings.{row_agrees}
use Rattle.lp_inherit.proofs.law_rows.Goals as goal

pub returns : goal.returns
returns c = row_agrees
