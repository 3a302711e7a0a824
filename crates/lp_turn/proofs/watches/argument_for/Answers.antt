use Rattle.lp_turn.proofs.Watched.{argument_is}
use Rattle.lp_turn.proofs.watches.argument_for.Goals as goal

pub returns-clause-value : goal.returns-clause-value
returns-clause-value c = argument_is c.args.live.now c.args.o c.in_ok-is_clone.is_clone c.argument_of.result c.in_ok-is_clone.ensures c.argument_of.ensures.value
