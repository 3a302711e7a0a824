use Rattle.lp_top.proofs.Going.{running-start, replays-cut}
use Rattle.lp_top.proofs.replay.begun.Goals as goal

pub events-requires : goal.events-requires
events-requires g c = (_, running-start c.args.swap_time c.args.reader.now _ c.args.live _ _ c.requires.0 c.args.outs.now c.requires.1 c.in-Ok.ensures.whole)

pub returns-in-Ok-clause-replays : goal.returns-in-Ok-clause-replays
returns-in-Ok-clause-replays g c = λ b h. c.events.ensures.replays b _ (running-start c.args.swap_time c.args.reader.now _ c.args.live _ _ c.requires.0 c.args.outs.now c.requires.1 c.in-Ok.ensures.whole) h

pub returns-in-Ok-clause-most : goal.returns-in-Ok-clause-most
returns-in-Ok-clause-most g c = λ b m h. c.events.ensures.most b h

pub returns-in-Err-clause-replays : goal.returns-in-Err-clause-replays
returns-in-Err-clause-replays g c = λ b h. replays-cut c.args.swap_time c.args.asks_report b c.args.reader.now _ c.args.live _ _ _ c.requires.0 c.args.outs.now h c.requires.1 c.in-Err.ensures.cut
