use Rattle.std.proofs.Common.{refl}
use Rattle.std.proofs.lemmas.Bool.{OnTrue_at}
use Rattle.lp_turn.proofs.CalledOut.{call_begins}
use Rattle.lp_turn.proofs.call_outs.call.Goals as goal

pub returns-clause-begins : goal.returns-clause-begins
returns-clause-begins c = call_begins c.args.live.now c.args.call_out c.args.rest _ (OnTrue_at c.if-not-is_there.false c.is_there.ensures) refl refl refl refl
