use Rattle.lp_vm.specs.Causes.{Tells}
use Rattle.lp_driver.proofs.Rested.{on_ok_of}
use Rattle.lp_driver.proofs.Telling.{read_exit, tells_more}
use Rattle.lp_driver.proofs.Ticks.{ticked}
use Rattle.lp_driver.proofs.ticking.tick.Goals as goal

pub returns-clause-ends : goal.returns-clause-ends
returns-clause-ends g c =
    on_ok_of c.clean_ups.result
    (ticked c.args.moment (g.W.SwapFile.content c.args.swap.now) (g.W.SwapFile.content c.call_outs.new.swap) (g.W.SwapFile.content c.heart_beats.new.swap) (g.W.SwapFile.content c.resets.new.swap) (g.W.SwapFile.content c.clean_ups.new.swap) c.args.live.now c.call_outs.new.live c.heart_beats.new.live
    c.resets.new.live c.clean_ups.new.live c.in_ok-call_outs.ensures.ends c.in_ok-heart_beats.ensures.ends c.in_ok-resets.ensures.ends) c.clean_ups.ensures.ends

pub returns-clause-tells : goal.returns-clause-tells
returns-clause-tells g c = tells_more (tells_more (tells_more c.in_ok-call_outs.ensures.tells c.in_ok-heart_beats.ensures.tells) c.in_ok-resets.ensures.tells) c.clean_ups.ensures.tells

pub returns-in_err-heart_beats-clause-tells : goal.returns-in_err-heart_beats-clause-tells
returns-in_err-heart_beats-clause-tells g c =
    read_exit (Tells (g.W.SwapFile.content c.heart_beats.new.swap) (g.W.SwapFile.last c.heart_beats.new.swap) (g.W.SwapFile.read_faults c.args.swap.now) (g.W.SwapFile.read_faults c.heart_beats.new.swap) (g.W.SwapFile.write_faults c.args.swap.now) (g.W.SwapFile.write_faults c.heart_beats.new.swap) (g.W.SwapFile.is_truthful c.args.swap.now) (g.W.SwapFile.is_truthful c.heart_beats.new.swap) (g.W.SwapFile.is_honest c.args.swap.now) (g.W.SwapFile.is_honest c.heart_beats.new.swap) c.heart_beats.new.live)
    c.from_residual-in_err-heart_beats.result c.in_err-heart_beats.field-0.0 c.from_residual-in_err-heart_beats.ensures.1 (tells_more c.in_ok-call_outs.ensures.tells c.in_err-heart_beats.ensures.tells)

pub returns-in_err-resets-clause-tells : goal.returns-in_err-resets-clause-tells
returns-in_err-resets-clause-tells g c =
    read_exit (Tells (g.W.SwapFile.content c.resets.new.swap) (g.W.SwapFile.last c.resets.new.swap) (g.W.SwapFile.read_faults c.args.swap.now) (g.W.SwapFile.read_faults c.resets.new.swap) (g.W.SwapFile.write_faults c.args.swap.now) (g.W.SwapFile.write_faults c.resets.new.swap) (g.W.SwapFile.is_truthful c.args.swap.now) (g.W.SwapFile.is_truthful c.resets.new.swap) (g.W.SwapFile.is_honest c.args.swap.now) (g.W.SwapFile.is_honest c.resets.new.swap) c.resets.new.live)
    c.from_residual-in_err-resets.result c.in_err-resets.field-0.0 c.from_residual-in_err-resets.ensures.1 (tells_more (tells_more c.in_ok-call_outs.ensures.tells c.in_ok-heart_beats.ensures.tells) c.in_err-resets.ensures.tells)
