use Rattle.std.proofs.Common.{◌∙◌, subst, sym}
use Rattle.lp_targets.specs.Brought.{Brings}
use Rattle.lp_targets.proofs.Memory.{stays_same}
use Rattle.lp_loading.specs.Telling.{brought_as}
use Rattle.lp_loading.specs.declared.job.LoadFault.TheVariants as faults
use Rattle.lp_loading.proofs.Brought.{brought_still, fault_brought, none_failed}
use Rattle.std.proofs.Common.{ap}
use Rattle.lp_loading.proofs.compiling.bring.Goals as goal

pub returns-then-not-has_version-clause-brings : goal.returns-then-not-has_version-clause-brings
returns-then-not-has_version-clause-brings g c = none_failed (g.W.SwapFile.content c.args.swap.now) (g.W.SwapFile.last c.args.swap.now) (g.W.SwapFile.read_faults c.args.swap.now) (g.W.SwapFile.write_faults c.args.swap.now) (g.W.SwapFile.is_truthful c.args.swap.now) (g.W.SwapFile.is_honest c.args.swap.now) c.args.live.now faults.NoMemory tt

pub returns-in-Ok-clause-brings : goal.returns-in-Ok-clause-brings
returns-in-Ok-clause-brings g c = brought_still c.enter_known.new.live c.told_truth.result c.in-Ok.ensures.brings (stays_same c.enter_known.new.live) c.told_truth.ensures.deviceless

pub returns-in-Err-clause-brings : goal.returns-in-Err-clause-brings
returns-in-Err-clause-brings g c = subst (λ r. Brings (g.W.SwapFile.content c.args.swap.now) (g.W.SwapFile.content c.enter_known.new.swap) (g.W.SwapFile.last c.enter_known.new.swap) (g.W.SwapFile.read_faults c.args.swap.now) (g.W.SwapFile.read_faults c.enter_known.new.swap) (g.W.SwapFile.write_faults c.args.swap.now) (g.W.SwapFile.write_faults c.enter_known.new.swap) (g.W.SwapFile.is_truthful c.args.swap.now) (g.W.SwapFile.is_truthful c.enter_known.new.swap) (g.W.SwapFile.is_honest c.args.swap.now) (g.W.SwapFile.is_honest c.enter_known.new.swap) c.args.live.now c.enter_known.new.live r) (fault_brought c.in-Err.e ∙ ap brought_as (sym c.load_fault.ensures)) c.in-Err.ensures.brings
