use Rattle.std.proofs.Common.{IfErr}
use Rattle.lp_cloning.specs.Feeding.{IsFaultIn}
use Rattle.lp_cloning.proofs.Telling.{tells_none}
use Rattle.std.proofs.Common.{sym, subst}
use Rattle.lp_targets.proofs.Lookups.{if_ok}
use Rattle.lp_cloning.specs.declared.job.Cloning.TheVariants as stages
use Rattle.lp_cloning.specs.Beginning.{Feeds}
use Rattle.lp_cloning.specs.Jobs.{IsWanted}
use Rattle.lp_cloning.proofs.Told.{feeds_of}
use Rattle.lp_cloning.proofs.feed.feed.Goals as goal

pub returns-in-Load-clause-feeds : goal.returns-in-Load-clause-feeds
returns-in-Load-clause-feeds g c =
    let told = g.W.SwapFile.content c.args.swap.now in
    let live = c.args.live.now in
    let new = c.answered.new.live in
    if_ok c.answered.result (λ r h. subst (λ j. Feeds r j c.args.answer told live new) (sym c.in-Load.is) (feeds_of r (stages.Load c.in-Load.name) c.args.answer told live new h)) c.answered.ensures.goes

pub returns-in-Make-clause-feeds : goal.returns-in-Make-clause-feeds
returns-in-Make-clause-feeds g c =
    let told = g.W.SwapFile.content c.args.swap.now in
    let live = c.args.live.now in
    subst (λ j. Feeds c.made.result j c.args.answer told live live) (sym c.in-Make.is)
    (feeds_of c.made.result (stages.Make c.in-Make.job) c.args.answer told live live (c.made.ensures.goes c.args.answer told live (subst IsWanted c.in-Make.is c.requires.wanted)))

pub returns-in-Load-clause-refused : goal.returns-in-Load-clause-refused
returns-in-Load-clause-refused g c = subst (λ j. IfErr c.answered.result (IsFaultIn j (g.W.SwapFile.content c.args.swap.now) c.args.live.now)) (sym c.in-Load.is) c.answered.ensures.refused

pub returns-in-Make-clause-tells : goal.returns-in-Make-clause-tells
returns-in-Make-clause-tells g c = tells_none (g.W.SwapFile.content c.args.swap.now) (g.W.SwapFile.last c.args.swap.now) (g.W.SwapFile.read_faults c.args.swap.now) (g.W.SwapFile.write_faults c.args.swap.now) (g.W.SwapFile.is_truthful c.args.swap.now) (g.W.SwapFile.is_honest c.args.swap.now) c.args.live.now
