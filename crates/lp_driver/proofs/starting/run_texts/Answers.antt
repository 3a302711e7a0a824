use Rattle.std.proofs.Common.{subst}
use Rattle.lp_driver.specs.Starting.{IsLastStep, StartContinues}
use Rattle.lp_driver.proofs.Starts.{concludes_begins, concludes_no_master, continues_on, last_still}
use Rattle.lp_driver.proofs.Telling.{tells_more}
use Rattle.lp_driver.proofs.starting.run_texts.Goals as goal

pub texts-preserved : goal.texts-preserved
texts-preserved g c =
    let i = c.texts.invariant in
    let e = c.in_ok-more-in-Asks.ensures in
    record {
      closed = e.closed;
      empty = e.empty;
      rests = e.rests;
      last = last_still c.in_ok-more-in-Asks.more c.in-Asks.waiting (subst (λ s. IsLastStep s) c.in-Asks.is i.last) e.less;
      object = e.object;
      values = e.values;
      continues = continues_on c.args.step c.in-Asks.call c.in-Asks.waiting c.in_ok-more-in-Asks.more (g.W.SwapFile.content c.args.swap.now) (g.W.SwapFile.content c.texts.swap) (g.W.SwapFile.content c.ask_on.new.swap) c.args.live.now c.texts.live c.ask_on.new.live
          (subst (λ s. StartContinues c.args.step (g.W.SwapFile.content c.args.swap.now) c.args.live.now (g.W.SwapFile.content c.texts.swap) c.texts.live s) c.in-Asks.is i.continues) e.steps;
      tells = tells_more i.tells e.tells;
    }

pub returns-in-Begins-clause-ends : goal.returns-in-Begins-clause-ends
returns-in-Begins-clause-ends g c =
    concludes_begins c.args.step (g.W.SwapFile.content c.args.swap.now) (g.W.SwapFile.content c.texts.swap) c.args.live.now c.texts.live
    (subst (λ s. StartContinues c.args.step (g.W.SwapFile.content c.args.swap.now) c.args.live.now (g.W.SwapFile.content c.texts.swap) c.texts.live s) c.in-Begins.is c.texts.invariant.continues)

pub returns-in-NoMaster-clause-ends : goal.returns-in-NoMaster-clause-ends
returns-in-NoMaster-clause-ends g c =
    concludes_no_master c.args.step c.in-NoMaster.faults (g.W.SwapFile.content c.args.swap.now) (g.W.SwapFile.content c.texts.swap) c.args.live.now c.texts.live
    (subst (λ s. StartContinues c.args.step (g.W.SwapFile.content c.args.swap.now) c.args.live.now (g.W.SwapFile.content c.texts.swap) c.texts.live s) c.in-NoMaster.is c.texts.invariant.continues)
