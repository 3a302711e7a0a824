use Rattle.lp_calling.proofs.Audiences.{object_speaks, player_speaks}
use Rattle.lp_calling.proofs.audience.speaker.Goals as goal

pub returns-in-Some : goal.returns-in-Some
returns-in-Some c = player_speaks c.args.live.now c.args.turn.now c.args.this c.in-Some.o c.in-Some.ensures

pub returns-in-None : goal.returns-in-None
returns-in-None c = object_speaks c.args.live.now c.args.turn.now c.args.this c.in-None.ensures
