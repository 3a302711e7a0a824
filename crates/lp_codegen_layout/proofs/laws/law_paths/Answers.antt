use Rattle.lp_codegen_layout.proofs.Paths.{paths_are_names}
use Rattle.lp_codegen_layout.proofs.laws.law_paths.Goals as goal

pub returns : goal.returns
returns c = paths_are_names
