use Rattle.std.specs.Str.{chars}
use Rattle.std.proofs.lemmas.Result.{on_ok_weaker}
use Rattle.lp_turn.proofs.Ended.{load_faulty}
use Rattle.lp_turn.proofs.ends.loaded_with_faults.Goals as goal

pub returns-in-Ok-clause-end : goal.returns-in-Ok-clause-end
returns-in-Ok-clause-end g c = λ fs q t.
    on_ok_weaker c.tell_stop.result
    (λ m. load_faulty (g.W.SwapFile.content c.args.swap.now) (g.W.SwapFile.content c.tell_stop.new.swap) c.args.live.now c.tell_stop.new.live (chars c.args.name.now) fs c.args.faults.now c.in-Ok.stop q c.in-Ok.ensures m) (c.tell_stop.ensures.tells t)
