use Rattle.std.proofs.lemmas.Result.{IfOk-weaker}
use Rattle.lp_turn.proofs.Beaten.{beat_ends}
use Rattle.lp_turn.proofs.heart_beats.beat_without.Goals as goal

pub returns-clause-goes : goal.returns-clause-goes
returns-clause-goes c =
    IfOk-weaker c.beat_next.result _ _ (λ r b. beat_ends c.args.live.now c.end_beat.new.live c.beat_next.new.live c.args.o c.args.due r c.in_ok-end_beat.ensures.ends b) c.beat_next.ensures.goes
