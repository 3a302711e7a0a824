use Rattle.lp_preproc_laws.proofs.Expanded.{expansion_named}
use Rattle.lp_preproc_laws.proofs.names.law_names.Goals as goal

pub returns : goal.returns
returns c = expansion_named
