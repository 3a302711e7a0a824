use Rattle.std.proofs.Common.{subst}
use Rattle.lp_driver.specs.Turning.{TurnContinues}
use Rattle.lp_driver.proofs.Telling.{tells_more}
use Rattle.lp_driver.proofs.Turns.{continues_on}
use Rattle.lp_driver.proofs.turning.run_step.Goals as goal

pub calls-preserved : goal.calls-preserved
calls-preserved g c =
    let i = c.calls.invariant in
    let e = c.in_ok-more-in-Asks.ensures in
    record {
      closed = e.closed;
      empty = e.empty;
      rests = e.rests;
      object = e.object;
      values = e.values;
      continues = continues_on c.args.step c.in-Asks.call c.in-Asks.waiting c.in_ok-more-in-Asks.more (g.W.SwapFile.content c.args.swap.now) (g.W.SwapFile.content c.calls.swap) (g.W.SwapFile.content c.ask_on.new.swap) c.args.live.now c.calls.live c.ask_on.new.live
          (subst (λ s. TurnContinues c.args.step (g.W.SwapFile.content c.args.swap.now) c.args.live.now (g.W.SwapFile.content c.calls.swap) c.calls.live s) c.in-Asks.is i.continues) e.steps;
      tells = tells_more i.tells e.tells;
    }

pub returns-in-Ends-clause-ends : goal.returns-in-Ends-clause-ends
returns-in-Ends-clause-ends g c = subst (λ s. TurnContinues c.args.step (g.W.SwapFile.content c.args.swap.now) c.args.live.now (g.W.SwapFile.content c.calls.swap) c.calls.live s) c.in-Ends.is c.calls.invariant.continues
