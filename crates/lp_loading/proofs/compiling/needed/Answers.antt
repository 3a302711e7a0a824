use Rattle.lp_targets.specs.Brought.{Brings}
use Rattle.lp_loading.proofs.Brought.{exit, none_brought}
use Rattle.lp_loading.proofs.compiling.needed.Goals as goal

pub returns-in_err-bring_out-in-Some-clause-brings : goal.returns-in_err-bring_out-in-Some-clause-brings
returns-in_err-bring_out-in-Some-clause-brings g c = exit (λ r. Brings (g.W.SwapFile.content c.args.swap.now) (g.W.SwapFile.content c.bring_out.new.swap) (g.W.SwapFile.last c.bring_out.new.swap) (g.W.SwapFile.read_faults c.args.swap.now) (g.W.SwapFile.read_faults c.bring_out.new.swap) (g.W.SwapFile.write_faults c.args.swap.now) (g.W.SwapFile.write_faults c.bring_out.new.swap) (g.W.SwapFile.is_truthful c.args.swap.now) (g.W.SwapFile.is_truthful c.bring_out.new.swap) (g.W.SwapFile.is_honest c.args.swap.now) (g.W.SwapFile.is_honest c.bring_out.new.swap) c.args.live.now c.bring_out.new.live r) c.from_residual.result c.in_err-bring_out-in-Some.field-0.0 c.from_residual.ensures.1 c.in_err-bring_out-in-Some.ensures.brings

pub returns-in-None-clause-brings : goal.returns-in-None-clause-brings
returns-in-None-clause-brings g c = none_brought (g.W.SwapFile.content c.args.swap.now) (g.W.SwapFile.last c.args.swap.now) (g.W.SwapFile.read_faults c.args.swap.now) (g.W.SwapFile.write_faults c.args.swap.now) (g.W.SwapFile.is_truthful c.args.swap.now) (g.W.SwapFile.is_honest c.args.swap.now) c.args.live.now
