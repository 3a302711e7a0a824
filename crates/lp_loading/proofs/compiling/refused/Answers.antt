use Rattle.lp_loading.specs.declared.job.LoadFault.TheVariants as faults
use Rattle.lp_loading.proofs.Brought.{none_brought, none_failed}
use Rattle.lp_loading.proofs.compiling.refused.Goals as goal

pub returns-in-Faults-clause-brings : goal.returns-in-Faults-clause-brings
returns-in-Faults-clause-brings g c = none_brought (g.W.SwapFile.content c.args.swap.now) (g.W.SwapFile.last c.args.swap.now) (g.W.SwapFile.read_faults c.args.swap.now) (g.W.SwapFile.write_faults c.args.swap.now) (g.W.SwapFile.is_truthful c.args.swap.now) (g.W.SwapFile.is_honest c.args.swap.now) c.args.live.now

pub returns-in-TooLarge-clause-brings : goal.returns-in-TooLarge-clause-brings
returns-in-TooLarge-clause-brings g c = none_failed (g.W.SwapFile.content c.args.swap.now) (g.W.SwapFile.last c.args.swap.now) (g.W.SwapFile.read_faults c.args.swap.now) (g.W.SwapFile.write_faults c.args.swap.now) (g.W.SwapFile.is_truthful c.args.swap.now) (g.W.SwapFile.is_honest c.args.swap.now) c.args.live.now faults.NoMemory tt

pub returns-in-NoMemory-clause-brings : goal.returns-in-NoMemory-clause-brings
returns-in-NoMemory-clause-brings g c = none_failed (g.W.SwapFile.content c.args.swap.now) (g.W.SwapFile.last c.args.swap.now) (g.W.SwapFile.read_faults c.args.swap.now) (g.W.SwapFile.write_faults c.args.swap.now) (g.W.SwapFile.is_truthful c.args.swap.now) (g.W.SwapFile.is_honest c.args.swap.now) c.args.live.now faults.NoMemory tt
