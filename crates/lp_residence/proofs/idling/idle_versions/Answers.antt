use Rattle.std.proofs.Common.{◌∙◌, arith}
use Rattle.lp_residence.specs.Idling.{Device, goes}
use Rattle.lp_residence.specs.declared.owner.Owner.TheVariants as owners
use Rattle.lp_residence.proofs.IdleLemmas.{next_put_version, next_versions_untouched, turn_counts}
use Rattle.lp_residence.proofs.idling.idle_versions.Goals as goal

pub loop-n-preserved : goal.loop-n-preserved
loop-n-preserved g c =
    let n = c.loop-n.n in
    let start : Device = record { told = g.W.SwapFile.content c.args.swap.now; faults = g.W.SwapFile.write_faults c.args.swap.now } in
    let was : Device = record { told = g.W.SwapFile.content c.loop-n.swap; faults = g.W.SwapFile.write_faults c.loop-n.swap } in
    let is : Device = record { told = g.W.SwapFile.content c.take_turn.new.swap; faults = g.W.SwapFile.write_faults c.take_turn.new.swap } in
    let turn = c.in_ok-take_turn.ensures.turn in
    let here = goes c.args.swap_time c.loop-n.live (owners.Program (record { 0 = n })) in
    record {
      closed = c.in_ok-take_turn.ensures.closed;
      stands = λ told.
          let a = c.loop-n.invariant.stands told in
          let b = c.in_ok-take_turn.ensures.stands a.0 in
          (b.0, λ programs w h. b.1 programs w (a.1 programs w h));
      put = next_put_version c.args.swap_time n c.args.live.now c.loop-n.live c.take_turn.new.live start was is c.args.counts.now c.loop-n.counts c.take_turn.new.counts c.loop-n.invariant.untouched c.loop-n.invariant.put turn;
      untouched = next_versions_untouched here n c.args.live.now c.loop-n.live c.take_turn.new.live was is c.loop-n.counts c.take_turn.new.counts c.loop-n.invariant.untouched turn;
      few = let t = turn_counts here (owners.Program (record { 0 = n })) c.loop-n.live c.take_turn.new.live was is c.loop-n.counts c.take_turn.new.counts turn in let f = c.loop-n.invariant.few in omega (arith, t, f);
      read_faults = c.in_ok-take_turn.ensures.read_faults ∙ c.loop-n.invariant.read_faults;
      honest = λ h. c.loop-n.invariant.honest (c.in_ok-take_turn.ensures.honest h);
      truthful = λ h. c.loop-n.invariant.truthful (c.in_ok-take_turn.ensures.truthful h);
    }
