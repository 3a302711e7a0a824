use Rattle.lp_codegen_layout.proofs.Entries.{last_counts}
use Rattle.lp_codegen_layout.proofs.laws.law_last.Goals as goal

pub returns : goal.returns
returns c = last_counts
