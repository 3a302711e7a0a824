use Rattle.lp_vm.proofs.Keepings.{reads_no_memory}
use Rattle.lp_vm.proofs.keeping.kept.Goals as goal

pub returns-else-tells_truth-clause-reads : goal.returns-else-tells_truth-clause-reads
returns-else-tells_truth-clause-reads g c = reads_no_memory c.in-Ok.ensures.reads

pub returns-then-tells_truth-clause-keeps : goal.returns-then-tells_truth-clause-keeps
returns-then-tells_truth-clause-keeps g c = c.in-Ok.ensures.keeps (c.tells_truth.ensures c.if-tells_truth.true)
