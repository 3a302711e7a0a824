use Rattle.lp_preproc_laws.proofs.Expanded.{expansion_unsigned}
use Rattle.lp_preproc_laws.proofs.signs.law_unsigned.Goals as goal

pub returns : goal.returns
returns c = expansion_unsigned
