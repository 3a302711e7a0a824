use Rattle.lp_vm.specs.Faults.{fault_of}
use Rattle.lp_vm.specs.Causes.{Tells}
use Rattle.lp_vm.proofs.Causing.{read_exit, tells_brought_first, tells_fault_first}
use Rattle.lp_vm.proofs.making.feed_on.Goals as goal

pub returns-in_err-feed-clause-tells : goal.returns-in_err-feed-clause-tells
returns-in_err-feed-clause-tells g c =
    read_exit (Tells (g.W.SwapFile.content c.feed.new.swap) (g.W.SwapFile.last c.feed.new.swap) (g.W.SwapFile.read_faults c.args.swap.now) (g.W.SwapFile.read_faults c.feed.new.swap) (g.W.SwapFile.write_faults c.args.swap.now) (g.W.SwapFile.write_faults c.feed.new.swap) (g.W.SwapFile.is_truthful c.args.swap.now) (g.W.SwapFile.is_truthful c.feed.new.swap) (g.W.SwapFile.is_honest c.args.swap.now) (g.W.SwapFile.is_honest c.feed.new.swap) c.feed.new.live)
    c.from_residual.result (fault_of c.in_err-feed.field-0.0) c.from_residual.ensures.1 (tells_fault_first c.in_err-feed.field-0.0 c.in_err-feed.ensures.brings c.requires.stands)

pub returns-clause-tells : goal.returns-clause-tells
returns-clause-tells g c = tells_brought_first c.in_ok-feed.ensures.brings
