use Rattle.std.proofs.Common.{◌≡◌, None, subst, sym}
use Rattle.std.specs.Str.{chars}
use Rattle.lp_objects.specs.Objects.{object_named}
use Rattle.lp_residence.specs.Idling.{Device}
use Rattle.lp_driver.specs.Turning.{NamesNobody}
use Rattle.lp_driver.proofs.Rested.{on_ok_by, rest_on}
use Rattle.lp_driver.proofs.Tidied.{tidied_idle, tidied_is, tidied_named, untouched}
use Rattle.lp_driver.proofs.tidying.tidy.Goals as goal

pub returns-in-Connect-clause-tidied : goal.returns-in-Connect-clause-tidied
returns-in-Connect-clause-tidied g c =
    let d : Device = record { told = g.W.SwapFile.content c.args.swap.now; faults = g.W.SwapFile.write_faults c.args.swap.now } in
    tidied_is c.args.swap_time c.args.event.now _ c.args.live.now d c.args.live.now d c.none_out.result c.in-Connect.is (untouched c.args.live.now d c.none_out.result c.none_out.ensures)

pub returns-in-Line-clause-tidied : goal.returns-in-Line-clause-tidied
returns-in-Line-clause-tidied g c =
    let d : Device = record { told = g.W.SwapFile.content c.args.swap.now; faults = g.W.SwapFile.write_faults c.args.swap.now } in
    tidied_is c.args.swap_time c.args.event.now _ c.args.live.now d c.args.live.now d c.none_out-in-Line.result c.in-Line.is (untouched c.args.live.now d c.none_out-in-Line.result c.none_out-in-Line.ensures)

pub returns-in-Gone-clause-tidied : goal.returns-in-Gone-clause-tidied
returns-in-Gone-clause-tidied g c =
    let d : Device = record { told = g.W.SwapFile.content c.args.swap.now; faults = g.W.SwapFile.write_faults c.args.swap.now } in
    tidied_is c.args.swap_time c.args.event.now _ c.args.live.now d c.args.live.now d c.none_out-in-Gone.result c.in-Gone.is (untouched c.args.live.now d c.none_out-in-Gone.result c.none_out-in-Gone.ensures)

pub returns-in-Reload-clause-tidied : goal.returns-in-Reload-clause-tidied
returns-in-Reload-clause-tidied g c =
    let d : Device = record { told = g.W.SwapFile.content c.args.swap.now; faults = g.W.SwapFile.write_faults c.args.swap.now } in
    tidied_is c.args.swap_time c.args.event.now _ c.args.live.now d c.args.live.now d c.none_out-in-Reload.result c.in-Reload.is (untouched c.args.live.now d c.none_out-in-Reload.result c.none_out-in-Reload.ensures)

pub returns-in-Tick-clause-tidied : goal.returns-in-Tick-clause-tidied
returns-in-Tick-clause-tidied g c =
    let d : Device = record { told = g.W.SwapFile.content c.args.swap.now; faults = g.W.SwapFile.write_faults c.args.swap.now } in
    let e : Device = record { told = g.W.SwapFile.content c.put_what_is_idle.new.swap; faults = g.W.SwapFile.write_faults c.put_what_is_idle.new.swap } in
    tidied_idle c.put_what_is_idle.result c.args.swap_time _ c.args.event.now c.args.live.now d c.put_what_is_idle.new.live e c.in-Tick.is c.put_what_is_idle.ensures.tidied

pub returns-in-Tick-clause-quiet : goal.returns-in-Tick-clause-quiet
returns-in-Tick-clause-quiet g c = λ h. absurd (subst (λ e. NamesNobody e c.args.live.now.names) c.in-Tick.is h)

pub returns-in-Swap-clause-tidied : goal.returns-in-Swap-clause-tidied
returns-in-Swap-clause-tidied g c =
    let d : Device = record { told = g.W.SwapFile.content c.args.swap.now; faults = g.W.SwapFile.write_faults c.args.swap.now } in
    let e : Device = record { told = g.W.SwapFile.content c.put_named.new.swap; faults = g.W.SwapFile.write_faults c.put_named.new.swap } in
    tidied_named c.put_named.result c.args.swap_time _ _ c.args.event.now c.args.live.now d c.put_named.new.live e c.in-Swap.is c.as_str.ensures c.put_named.ensures.puts

pub returns-in-Swap-clause-quiet : goal.returns-in-Swap-clause-quiet
returns-in-Swap-clause-quiet g c = λ h.
    let k = subst (λ e. NamesNobody e c.args.live.now.names) c.in-Swap.is h in
    c.put_named.ensures.quiet k.0 k.1 (subst (λ n. object_named k.0 (chars n) ≡ None) (sym c.as_str.ensures) k.2)

pub returns-in-Swap-clause-rest : goal.returns-in-Swap-clause-rest
returns-in-Swap-clause-rest g c =
    on_ok_by c.put_named.result (λ n h. rest_on (g.W.SwapFile.content c.args.swap.now) (g.W.SwapFile.content c.put_named.new.swap) c.args.live.now c.put_named.new.live c.put_named.ensures.world c.put_named.ensures.outputs) c.put_named.ensures.puts
