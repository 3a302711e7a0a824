use Rattle.std.proofs.Common.{subst}
use Rattle.std.specs.Str.{chars}
use Rattle.lp_turn.specs.Ends.{IsLoadEnd}
use Rattle.lp_turn.proofs.Opened.{simul_loaded}
use Rattle.lp_turn.proofs.start_feed.take_simul.Goals as goal

pub returns-in-Ok-clause-takes : goal.returns-in-Ok-clause-takes
returns-in-Ok-clause-takes g c = λ t.
    let told0 = g.W.SwapFile.content c.args.swap.now in
    let told1 = g.W.SwapFile.content c.loaded.new.swap in
    simul_loaded told0 told1 c.args.live.now c.loaded.new.live c.args.name.now c.args.end
    (subst (λ name. IsLoadEnd (chars name) c.args.end told0 c.args.live.now told1 c.loaded.new.live) c.as_str.ensures (c.in-Ok.ensures.end t))
