use Rattle.std.proofs.Common.{IfOk, refl, subst, sym}
use Rattle.lp_residence.specs.Idling.{Device}
use Rattle.lp_residence.specs.declared.owner.Owner.TheVariants as owners
use Rattle.lp_tidying.specs.Putting.{ArePutOut, version_owners}
use Rattle.lp_tidying.proofs.Puts.{one_ok}
use Rattle.lp_tidying.proofs.naming.put_version.Goals as goal

pub returns-in-Some-clause-puts : goal.returns-in-Some-clause-puts
returns-in-Some-clause-puts g c =
    let d : Device = record { told = g.W.SwapFile.content c.args.swap.now; faults = g.W.SwapFile.write_faults c.args.swap.now } in
    let e : Device = record { told = g.W.SwapFile.content c.put_one.new.swap; faults = g.W.SwapFile.write_faults c.put_one.new.swap } in
    subst (λ v. IfOk c.put_one.result (ArePutOut (version_owners v) c.args.live.now d c.args.counts c.put_one.new.live e)) (sym c.in-Some.is)
    (one_ok c.put_one.result (owners.Program c.in-Some.p) c.args.live.now d c.args.counts c.put_one.new.live e c.put_one.ensures.put)

pub returns-in-None-clause-puts : goal.returns-in-None-clause-puts
returns-in-None-clause-puts g c =
    let d : Device = record { told = g.W.SwapFile.content c.args.swap.now; faults = g.W.SwapFile.write_faults c.args.swap.now } in
    subst (λ v. ArePutOut (version_owners v) c.args.live.now d c.args.counts c.args.live.now d c.args.counts) (sym c.in-None.is) (refl, refl, refl)
