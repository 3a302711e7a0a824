use Rattle.std.proofs.Common.{subst}
use Rattle.lp_turn.specs.Ends.{IsLoadEnd}
use Rattle.lp_turn.proofs.Ended.{loading_ended}
use Rattle.lp_turn.proofs.Words.{chars-master}
use Rattle.lp_turn.proofs.feed.take_load.Goals as goal

pub returns-in-Ok-clause-takes : goal.returns-in-Ok-clause-takes
returns-in-Ok-clause-takes g c = λ t.
    let told0 = g.W.SwapFile.content c.args.swap.now in
    let told1 = g.W.SwapFile.content c.loaded.new.swap in
    loading_ended told0 told1 c.args.live.now c.loaded.new.live c.args.f c.args.end
    (subst (λ name. IsLoadEnd name c.args.end told0 c.args.live.now told1 c.loaded.new.live) chars-master (c.in-Ok.ensures.end t))
