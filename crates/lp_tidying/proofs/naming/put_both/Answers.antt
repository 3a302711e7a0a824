use Rattle.std.proofs.Common.{subst}
use Rattle.lp_residence.specs.Idling.{Device, none_yet}
use Rattle.lp_residence.specs.declared.owner.Owner.TheVariants as owners
use Rattle.lp_world.specs.Rows.{row_at}
use Rattle.lp_tidying.specs.Putting.{IsPutOut, version_in}
use Rattle.lp_tidying.proofs.Puts.{both_ok}
use Rattle.lp_tidying.proofs.naming.put_both.Goals as goal

pub returns-clause-puts : goal.returns-clause-puts
returns-clause-puts g c =
    let d : Device = record { told = g.W.SwapFile.content c.args.swap.now; faults = g.W.SwapFile.write_faults c.args.swap.now } in
    let e : Device = record { told = g.W.SwapFile.content c.put_one.new.swap; faults = g.W.SwapFile.write_faults c.put_one.new.swap } in
    let f : Device = record { told = g.W.SwapFile.content c.put_version.new.swap; faults = g.W.SwapFile.write_faults c.put_version.new.swap } in
    both_ok c.put_version.result c.args.o c.version_of-version.result (version_in (row_at c.args.live.now.objects c.args.o.0)) c.args.live.now d none_yet c.put_one.new.live e c.in_ok-counts.counts c.put_version.new.live f c.version_of-version.ensures
    (subst (λ n. IsPutOut (owners.Object c.args.o) c.args.live.now d n c.put_one.new.live e c.in_ok-counts.counts) c.none_out.ensures c.in_ok-counts.ensures.put) c.put_version.ensures.puts
