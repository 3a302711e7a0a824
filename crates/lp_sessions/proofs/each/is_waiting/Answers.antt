use Rattle.lp_sessions.proofs.Index.{absent_idle, here_idle}
use Rattle.lp_sessions.proofs.each.is_waiting.Goals as goal

pub returns-in-Some : goal.returns-in-Some
returns-in-Some c = λ idle. here_idle c.args.number c.in-Some.i c.args.sessions.now c.index-sessions-i.result c.index-sessions-i.result c.requires c.in-Some.ensures.within c.in-Some.ensures.found c.index-sessions-i.is (c.is_waiting.ensures idle)

pub returns-in-None : goal.returns-in-None
returns-in-None c = λ idle. absent_idle c.args.number c.args.sessions.now c.in-None.ensures.none
