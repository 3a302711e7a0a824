use Rattle.std.proofs.lemmas.Result.{on_ok_weaker}
use Rattle.lp_turn.proofs.Reloading.{reloads}
use Rattle.lp_turn.proofs.reloads.reload.Goals as goal

pub returns-clause-whole : goal.returns-clause-whole
returns-clause-whole c =
    on_ok_weaker c.tell_closed.result
    (λ e. reloads c.args.live.now c.reload.new.live c.tell_closed.new.live c.args.path.now c.args.bytes.now c.in_ok-number.number c.in_ok-number.ensures.stands c.reload.ensures.outputs e) c.tell_closed.ensures.told
