use Rattle.lp_top.proofs.Beginning.{replays-early}
use Rattle.lp_top.proofs.Swapping.{still-tells, reading-calm}
use Rattle.lp_top.proofs.replay.replay.Goals as goal

pub returns-in-Err-clause-replays : goal.returns-in-Err-clause-replays
returns-in-Err-clause-replays g c = λ b h.
    let e = c.in-Err.ensures.end b h in
    replays-early c.args.swap_time c.args.asks_report b _ c.in-Err.status e.0 e.1 e.2 c.in-Err.ensures.kind

pub returns-in-Err-clause-swap : goal.returns-in-Err-clause-swap
returns-in-Err-clause-swap g c = still-tells c.in-Err.status _ _ _ _ _ (reading-calm c.in-Err.status c.in-Err.ensures.kind)

pub returns-clause-replays : goal.returns-clause-replays
returns-clause-replays g c = λ b h. c.begin.ensures.replays b (c.in-Ok.ensures.reads b h)

pub returns-clause-whole : goal.returns-clause-whole
returns-clause-whole g c = λ e b h. c.begin.ensures.whole e b (c.in-Ok.ensures.reads b h)

pub returns-clause-most : goal.returns-clause-most
returns-clause-most g c = λ b h. c.begin.ensures.most b (c.in-Ok.ensures.most b h) (c.in-Ok.ensures.reads b h)
