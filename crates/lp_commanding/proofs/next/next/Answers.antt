use Rattle.std.proofs.Common.{ap}
use Rattle.lp_efuns.proofs.Called.{same_variables}
use Rattle.lp_commanding.proofs.next.next.Goals as goal

pub returns-clause-variables : goal.returns-clause-variables
returns-clause-variables c = same_variables c.args.live.now.objects c.go.new.live.objects (ap (λ l. l.objects) c.go.ensures.same)
