use Rattle.std.proofs.Common.{subst, sym}
use Rattle.lp_turn.specs.Ends.{HasValueOf}
use Rattle.lp_turn.specs.declared.job.CallEnd.TheVariants as ends
use Rattle.lp_turn.proofs.Ended.{gave}
use Rattle.lp_turn.proofs.ends.value_of_ending.Goals as goal

pub returns-in-Value-clause-value : goal.returns-in-Value-clause-value
returns-in-Value-clause-value g c = λ t.
    let told = g.W.SwapFile.content c.args.swap.now in
    subst (λ e. HasValueOf c.args.player (ends.Ended e) told c.args.live.now told c.args.live.now c.in-Value.v) (sym c.in-Value.is) (gave told c.args.live.now c.args.player c.in-Value.v)
