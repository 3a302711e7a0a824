use Rattle.std.proofs.Common.{subst, sym}
use Rattle.std.proofs.lemmas.Result.{IfOk-weaker}
use Rattle.lp_driver.specs.Starting.{StartContinues}
use Rattle.lp_driver.proofs.Starts.{continues_asked}
use Rattle.lp_driver.proofs.starting.+run_stages.Goals as goal

pub returns-in_ok-more-in-Asks-clause-steps : goal.returns-in_ok-more-in-Asks-clause-steps
returns-in_ok-more-in-Asks-clause-steps g t c =
    let told0 = g.W.SwapFile.content c.args.swap.now in
    let told2 = g.W.SwapFile.content c.run_stages.new.swap in
    IfOk-weaker c.run_stages.result _ _
    (λ r h. subst (λ s. StartContinues s told0 c.args.live.now told2 c.run_stages.new.live r) (sym c.in-Asks.is)
    (continues_asked c.in-Asks.call c.in-Asks.waiting c.in_ok-more-in-Asks.more r told0 (g.W.SwapFile.content c.ask_on.new.swap) told2 c.args.live.now c.ask_on.new.live c.run_stages.new.live c.in_ok-more-in-Asks.ensures.steps h)) c.run_stages.ensures.steps
