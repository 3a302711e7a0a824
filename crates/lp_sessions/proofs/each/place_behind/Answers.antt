use Rattle.lp_sessions.proofs.Index.{above_drop}
use Rattle.lp_sessions.proofs.each.place_behind.Goals as goal

pub place_among-requires : goal.place_among-requires
place_among-requires c = rw c.split_at.ensures.back (above_drop c.args.done 0 c.args.sessions.now c.requires.table)
