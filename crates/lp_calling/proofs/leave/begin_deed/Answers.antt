use Rattle.lp_calling.proofs.Leaving.{deed_starts}
use Rattle.lp_calling.proofs.leave.begin_deed.Goals as goal

pub returns-clause-starts : goal.returns-clause-starts
returns-clause-starts c =
    let a = c.args in
    deed_starts a.efun a.caller.now a.live.now a.low a.stack.now.items a.deed a.path c.in_ok-stage.stage c.requires.low c.requires.deed c.in_ok-stage.ensures.asks c.in_ok-stage.ensures.on
