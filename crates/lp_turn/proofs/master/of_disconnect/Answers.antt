use Rattle.std.proofs.Common.{rules}
use Rattle.lp_turn.proofs.Words.{chars-nothing}
use Rattle.lp_turn.proofs.master.of_disconnect.Goals as goal

pub returns : goal.returns
returns c = search (rules, chars-nothing)
