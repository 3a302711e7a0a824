use Rattle.lp_save.proofs.KindLemmas.{kinds_same}
use Rattle.lp_save.proofs.law.law_kinds.Goals as goal

pub returns : goal.returns
returns c = kinds_same
