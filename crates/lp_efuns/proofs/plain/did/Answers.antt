use Rattle.lp_efuns.proofs.Called.{same_variables}
use Rattle.lp_efuns.proofs.plain.did.Goals as goal

pub returns-then-is_computing-clause-variables : goal.returns-then-is_computing-clause-variables
returns-then-is_computing-clause-variables c = same_variables c.args.live.now.objects c.computed.new.live.objects c.computed.ensures.objects
