use Rattle.std.proofs.Common.{IfErr, sym, subst}
use Rattle.std.specs.Str.{chars}
use Rattle.std.specs.String.{string_bytes}
use Rattle.lp_asking.specs.declared.ending.Ending.TheVariants as endings
use Rattle.lp_meaning.specs.FileLoads.{clone_name}
use Rattle.lp_targets.proofs.Lookups.{if_ok}
use Rattle.lp_cloning.specs.declared.job.Begun.TheVariants as begun
use Rattle.lp_cloning.specs.Faults.{IsTakenFor}
use Rattle.lp_cloning.specs.Feeding.{LoadedAs}
use Rattle.lp_cloning.proofs.Behind.{stop_loaded, value_loaded}
use Rattle.lp_cloning.proofs.Telling.{tells_none}
use Rattle.lp_cloning.proofs.feed.loaded.Goals as goal

pub returns-in-Value-clause-loaded : goal.returns-in-Value-clause-loaded
returns-in-Value-clause-loaded g c =
    let told = g.W.SwapFile.content c.args.swap.now in
    let live = c.args.live.now in
    let new = c.clone_value.new.live in
    if_ok c.clone_value.result (λ r h.
    subst (λ e. LoadedAs r (chars (string_bytes c.args.name)) e told live new) (sym c.in-Value.is)
    (subst (λ t. LoadedAs r (chars t) (endings.Value c.in-Value.v) told live new) c.as_str.ensures.value (value_loaded r (chars c.as_str.result.now) c.in-Value.v told live new h)))
    c.clone_value.ensures.starts

pub returns-in-Value-clause-refused : goal.returns-in-Value-clause-refused
returns-in-Value-clause-refused g c =
    subst (λ t. IfErr c.clone_value.result (IsTakenFor (g.W.SwapFile.content c.args.swap.now) c.args.live.now (λ w. clone_name w (chars t)))) c.as_str.ensures.value c.clone_value.ensures.refused

pub returns-clause-loaded : goal.returns-clause-loaded
returns-clause-loaded g c =
    let told = g.W.SwapFile.content c.args.swap.now in
    let live = c.args.live.now in
    let name = chars (string_bytes c.args.name) in
    subst (λ e. LoadedAs (begun.Ends (endings.Stopped c.in-Stopped.stop)) name e told live live) (sym c.in-Stopped.is) (stop_loaded c.in-Stopped.stop name told live)

pub returns-clause-tells : goal.returns-clause-tells
returns-clause-tells g c = tells_none (g.W.SwapFile.content c.args.swap.now) (g.W.SwapFile.last c.args.swap.now) (g.W.SwapFile.read_faults c.args.swap.now) (g.W.SwapFile.write_faults c.args.swap.now) (g.W.SwapFile.is_truthful c.args.swap.now) (g.W.SwapFile.is_honest c.args.swap.now) c.args.live.now
