use Rattle.std.proofs.Common.{sym, subst}
use Rattle.lp_beginning.specs.Feeding.{IsLogged}
use Rattle.lp_beginning.proofs.Brought.{none_first}
use Rattle.lp_beginning.proofs.Stopped.{stop_logged}
use Rattle.lp_beginning.proofs.feed.stopped.Goals as goal

pub returns-then-not-is_logged-clause-brings : goal.returns-then-not-is_logged-clause-brings
returns-then-not-is_logged-clause-brings g c =
    none_first (g.W.SwapFile.content c.args.swap.now) (g.W.SwapFile.last c.args.swap.now) (g.W.SwapFile.read_faults c.args.swap.now) (g.W.SwapFile.write_faults c.args.swap.now) (g.W.SwapFile.is_truthful c.args.swap.now) (g.W.SwapFile.is_honest c.args.swap.now) c.args.live.now

pub returns-in-Ok-clause-stops : goal.returns-in-Ok-clause-stops
returns-in-Ok-clause-stops g c =
    stop_logged c.args.kind c.args.object c.args.stop c.args.asker (g.W.SwapFile.content c.args.swap.now) c.args.live.now c.log.new.live (sym c.if-not-is_logged.ensures)
    (subst (IsLogged (g.W.SwapFile.content c.args.swap.now) c.args.live.now c.log.new.live c.args.stop.cause) c.earlier_place-at.ensures c.in-Ok.ensures.logged)
