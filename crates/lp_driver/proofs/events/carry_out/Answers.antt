use Rattle.std.proofs.Common.{subst, sym}
use Rattle.lp_meaning.specs.Ticks.{turn}
use Rattle.lp_driver.specs.Turning.{IsSwap, TurnEnds}
use Rattle.lp_driver.proofs.Rested.{on_ok_of}
use Rattle.lp_driver.proofs.Turns.{nothing_done}
use Rattle.lp_driver.proofs.events.carry_out.Goals as goal

pub returns-in-Connect-clause-ends : goal.returns-in-Connect-clause-ends
returns-in-Connect-clause-ends g c =
    on_ok_of c.connect.result (subst (λ e. TurnEnds (turn e) (g.W.SwapFile.content c.args.swap.now) c.args.live.now (g.W.SwapFile.content c.connect.new.swap) c.connect.new.live) (sym c.in-Connect.is)) c.connect.ensures.ends

pub returns-in-Swap-clause-ends : goal.returns-in-Swap-clause-ends
returns-in-Swap-clause-ends g c =
    subst (λ e. TurnEnds (turn e) (g.W.SwapFile.content c.args.swap.now) c.args.live.now (g.W.SwapFile.content c.args.swap.now) c.args.live.now) (sym c.in-Swap.is) (nothing_done (g.W.SwapFile.content c.args.swap.now) c.args.live.now)

pub returns-in-Connect-clause-swaps : goal.returns-in-Connect-clause-swaps
returns-in-Connect-clause-swaps g c = λ h. absurd (subst IsSwap c.in-Connect.is h)

pub returns-in-Line-clause-swaps : goal.returns-in-Line-clause-swaps
returns-in-Line-clause-swaps g c = λ h. absurd (subst IsSwap c.in-Line.is h)

pub returns-in-Gone-clause-swaps : goal.returns-in-Gone-clause-swaps
returns-in-Gone-clause-swaps g c = λ h. absurd (subst IsSwap c.in-Gone.is h)

pub returns-in-Tick-clause-swaps : goal.returns-in-Tick-clause-swaps
returns-in-Tick-clause-swaps g c = λ h. absurd (subst IsSwap c.in-Tick.is h)

pub returns-in-Reload-clause-swaps : goal.returns-in-Reload-clause-swaps
returns-in-Reload-clause-swaps g c = λ h. absurd (subst IsSwap c.in-Reload.is h)
