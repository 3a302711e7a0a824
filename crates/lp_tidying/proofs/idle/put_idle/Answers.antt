use Rattle.lp_residence.specs.Idling.{Device, going}
use Rattle.lp_tidying.proofs.Puts.{idle_outputs_ok}
use Rattle.lp_tidying.proofs.idle.put_idle.Goals as goal

pub returns-clause-outputs : goal.returns-clause-outputs
returns-clause-outputs g c =
    let d : Device = record { told = g.W.SwapFile.content c.args.swap.now; faults = g.W.SwapFile.write_faults c.args.swap.now } in
    let e : Device = record { told = g.W.SwapFile.content c.idle.new.swap; faults = g.W.SwapFile.write_faults c.idle.new.swap } in
    idle_outputs_ok c.idle.result (going c.args.swap_time c.args.live.now) c.args.live.now d c.idle.new.live e c.idle.ensures.put
