use Rattle.lp_beginning.proofs.Brought.{none_first}
use Rattle.lp_beginning.proofs.feed.feed.Goals as goal

pub returns-in-Value-clause-brings : goal.returns-in-Value-clause-brings
returns-in-Value-clause-brings g c =
    none_first (g.W.SwapFile.content c.args.swap.now) (g.W.SwapFile.last c.args.swap.now) (g.W.SwapFile.read_faults c.args.swap.now) (g.W.SwapFile.write_faults c.args.swap.now) (g.W.SwapFile.is_truthful c.args.swap.now) (g.W.SwapFile.is_honest c.args.swap.now) c.args.live.now
