use Rattle.std.proofs.Common.{subst}
use Rattle.lp_commanding.specs.Going.{IsFedThere}
use Rattle.lp_vm.proofs.commanding.feed_command.Goals as goal

pub returns-in-Ends-clause-there : goal.returns-in-Ends-clause-there
returns-in-Ends-clause-there c = subst (IsFedThere c.args.live.now.cells) c.in-Ends.is (c.feed.ensures.there c.args.live.now.cells)
