use Rattle.lp_targets.proofs.Memory.{brings_err, brings_no_memory}
use Rattle.lp_vm.proofs.shadowing.begin_with_programs.Goals as goal

pub returns-else-tells_truth-clause-brings : goal.returns-else-tells_truth-clause-brings
returns-else-tells_truth-clause-brings g c = brings_no_memory c.in-Ok.ensures.brings

pub returns-in-Err-clause-brings : goal.returns-in-Err-clause-brings
returns-in-Err-clause-brings g c = brings_err c.in-Err.ensures.brings

pub returns-then-tells_truth-clause-begins : goal.returns-then-tells_truth-clause-begins
returns-then-tells_truth-clause-begins g c = c.in-Ok.ensures.begins (c.tells_truth.ensures c.if-tells_truth.true)
