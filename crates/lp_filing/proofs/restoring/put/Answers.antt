use Rattle.std.proofs.Common.{arith}
use Rattle.lp_filing.proofs.Putting.{become_past}
use Rattle.lp_filing.proofs.restoring.put.Goals as goal

pub returns-else-place-variables : goal.returns-else-place-variables
returns-else-place-variables c = become_past c.args.objects.now c.args.this c.args.place c.args.v c.variables.result.now c.variables.ensures (omega arith)
