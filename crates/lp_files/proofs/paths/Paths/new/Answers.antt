use Rattle.lp_files.proofs.PathLemmas.{rising-none}
use Rattle.lp_files.proofs.paths.Paths.new.Goals as goal

pub invariant_of-result : goal.invariant_of-result
invariant_of-result c = rw c.new.ensures.items rising-none
