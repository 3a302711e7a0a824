use Rattle.lp_targets.specs.Brought.{Brings}
use Rattle.lp_targets.proofs.Memory.{brings_no_memory}
use Rattle.lp_targets.proofs.Worlds.{program_is}
use Rattle.lp_loading.proofs.Brought.{exit}
use Rattle.lp_loading.specs.declared.job.LoadFault.TheVariants as faults
use Rattle.lp_loading.proofs.simuls.bring_shared.Goals as goal

pub returns-in_ok-share_program-in-Ok-clause-code : goal.returns-in_ok-share_program-in-Ok-clause-code
returns-in_ok-share_program-in-Ok-clause-code g c = λ programs w h.
    program_is (g.W.SwapFile.content c.bring.new.swap) programs c.bring.new.live w c.args.p c.in_ok-share_program-in-Ok.field-0 (c.in-Ok.ensures.worlds programs w h).stands c.in_ok-share_program-in-Ok.ensures

pub returns-in_err-share_program-in-Ok-clause-brings : goal.returns-in_err-share_program-in-Ok-clause-brings
returns-in_err-share_program-in-Ok-clause-brings g c = exit (λ r. Brings (g.W.SwapFile.content c.args.swap.now) (g.W.SwapFile.content c.bring.new.swap) (g.W.SwapFile.last c.bring.new.swap) (g.W.SwapFile.read_faults c.args.swap.now) (g.W.SwapFile.read_faults c.bring.new.swap) (g.W.SwapFile.write_faults c.args.swap.now) (g.W.SwapFile.write_faults c.bring.new.swap) (g.W.SwapFile.is_truthful c.args.swap.now) (g.W.SwapFile.is_truthful c.bring.new.swap) (g.W.SwapFile.is_honest c.args.swap.now) (g.W.SwapFile.is_honest c.bring.new.swap) c.args.live.now c.bring.new.live r) c.from_residual.result faults.NoMemory c.from_residual.ensures.1 (brings_no_memory c.in-Ok.ensures.brings)
