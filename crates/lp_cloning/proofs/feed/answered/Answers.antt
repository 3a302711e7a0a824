use Rattle.std.proofs.Common.{IfErr}
use Rattle.std.specs.Str.{chars}
use Rattle.lp_meaning.specs.FileLoads.{clone_name}
use Rattle.lp_cloning.specs.Faults.{IsTakenFor}
use Rattle.lp_cloning.proofs.Telling.{tells_no_memory, tells_none}
use Rattle.std.proofs.Common.{sym, subst}
use Rattle.lp_targets.proofs.Lookups.{if_ok}
use Rattle.lp_cloning.specs.declared.job.Cloning.TheVariants as stages
use Rattle.lp_cloning.specs.Beginning.{Continues}
use Rattle.lp_cloning.proofs.Told.{value_continues}
use Rattle.lp_cloning.proofs.feed.answered.Goals as goal

pub returns-in-Value-clause-goes : goal.returns-in-Value-clause-goes
returns-in-Value-clause-goes g c =
    let told = g.W.SwapFile.content c.args.swap.now in
    let live = c.args.live.now in
    let new = c.clone_value.new.live in
    if_ok c.clone_value.result (λ r h. subst (λ a. Continues r (stages.Load c.args.name) a told live new) (sym c.in-Value.is) (value_continues r c.args.name c.as_str.result.now c.in-Value.v told live new c.as_str.ensures.value h)) c.clone_value.ensures.starts

pub returns-in-Value-clause-refused : goal.returns-in-Value-clause-refused
returns-in-Value-clause-refused g c =
    subst (λ t. IfErr c.clone_value.result (IsTakenFor (g.W.SwapFile.content c.args.swap.now) c.args.live.now (λ w. clone_name w (chars t)))) c.as_str.ensures.value c.clone_value.ensures.refused

pub returns-in-Ok-clause-tells : goal.returns-in-Ok-clause-tells
returns-in-Ok-clause-tells g c = tells_none (g.W.SwapFile.content c.args.swap.now) (g.W.SwapFile.last c.args.swap.now) (g.W.SwapFile.read_faults c.args.swap.now) (g.W.SwapFile.write_faults c.args.swap.now) (g.W.SwapFile.is_truthful c.args.swap.now) (g.W.SwapFile.is_honest c.args.swap.now) c.args.live.now

pub returns-clause-tells : goal.returns-clause-tells
returns-clause-tells g c = tells_no_memory (g.W.SwapFile.content c.args.swap.now) (g.W.SwapFile.last c.args.swap.now) (g.W.SwapFile.read_faults c.args.swap.now) (g.W.SwapFile.write_faults c.args.swap.now) (g.W.SwapFile.is_truthful c.args.swap.now) (g.W.SwapFile.is_honest c.args.swap.now) c.args.live.now
