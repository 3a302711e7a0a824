use Rattle.std.proofs.Common.{◌≡◌, ap, arith, length}
use Rattle.lp_residence.specs.Idling.{Device}
use Rattle.lp_residence.proofs.IdleLemmas.{all_counted, all_put}
use Rattle.lp_residence.proofs.idling.idle.Goals as goal

pub idle_versions-requires-clause-few : goal.idle_versions-requires-clause-few
idle_versions-requires-clause-few g c =
    let u = c.in_ok-idle_objects.ensures.untouched in
    let f = c.in_ok-idle_objects.ensures.few in
    let few = c.if-not-are_few.ensures in
    let v : length c.idle_objects.new.live.versions ≡ length c.args.live.now.versions = ap (λ l. length l) u.versions in
    let a = few.0 in
    let b = few.1 in
    omega (arith, f, v, a, b)

pub returns-clause-stands : goal.returns-clause-stands
returns-clause-stands g c = λ told programs w h.
    let a = c.in_ok-idle_objects.ensures.stands told in
    (c.in_ok-idle_versions.ensures.stands a.0).1 programs w (a.1 programs w h)

pub returns-clause-put : goal.returns-clause-put
returns-clause-put g c =
    let start : Device = record { told = g.W.SwapFile.content c.args.swap.now; faults = g.W.SwapFile.write_faults c.args.swap.now } in
    let mid : Device = record { told = g.W.SwapFile.content c.idle_objects.new.swap; faults = g.W.SwapFile.write_faults c.idle_objects.new.swap } in
    let end : Device = record { told = g.W.SwapFile.content c.idle_versions.new.swap; faults = g.W.SwapFile.write_faults c.idle_versions.new.swap } in
    all_put c.args.swap_time (length c.args.live.now.objects) c.args.live.now c.idle_objects.new.live c.idle_versions.new.live start mid end c.idle_objects.new.counts c.idle_versions.new.counts
    c.in_ok-idle_objects.ensures.untouched c.in_ok-idle_objects.ensures.put c.in_ok-idle_versions.ensures.put

pub returns-clause-all : goal.returns-clause-all
returns-clause-all g c =
    let start : Device = record { told = g.W.SwapFile.content c.args.swap.now; faults = g.W.SwapFile.write_faults c.args.swap.now } in
    let end : Device = record { told = g.W.SwapFile.content c.idle_versions.new.swap; faults = g.W.SwapFile.write_faults c.idle_versions.new.swap } in
    all_counted c.args.swap_time c.args.live.now c.idle_versions.new.live start end c.idle_versions.new.counts (returns-clause-put g c)
