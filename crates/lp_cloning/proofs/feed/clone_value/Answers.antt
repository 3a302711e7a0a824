use Rattle.lp_meaning.specs.FileLoads.{clone_name}
use Rattle.lp_cloning.proofs.Telling.{taken_want, tells_either}
use Rattle.std.specs.Str.{chars}
use Rattle.lp_values.specs.declared.error.ErrorKind.TheVariants.{BadTarget}
use Rattle.lp_meaning.specs.FileLoads.{cloning}
use Rattle.lp_targets.proofs.Lookups.{if_ok}
use Rattle.lp_cloning.specs.Jobs.{clone_loaded}
use Rattle.lp_cloning.proofs.Cloned.{error_starts, starts_as}
use Rattle.lp_cloning.proofs.Told.{loaded_none, loaded_some}
use Rattle.lp_cloning.proofs.feed.clone_value.Goals as goal

pub returns-in-Some-clause-starts : goal.returns-in-Some-clause-starts
returns-in-Some-clause-starts g c =
    let told = g.W.SwapFile.content c.args.swap.now in
    let live = c.args.live.now in
    let name = chars c.args.name.now in
    if_ok c.clone_live.result (λ r h.
    starts_as r (λ by s. cloning by name c.in-Some.o s) (λ by s. clone_loaded by name c.args.v s) told live c.clone_live.new.live
    (λ k by turn b s q f. loaded_some k live turn b s name c.args.v c.in-Some.o by f c.in-Some.ensures) h)
    c.clone_live.ensures.starts

pub returns-clause-starts : goal.returns-clause-starts
returns-clause-starts g c =
    let told = g.W.SwapFile.content c.args.swap.now in
    let live = c.args.live.now in
    let name = chars c.args.name.now in
    if_ok c.error_begun.result (λ r i.
    error_starts BadTarget r (λ by s. clone_loaded by name c.args.v s) told live i (λ k by turn b s q f. loaded_none k live turn b s name c.args.v by f c.in-None.ensures))
    c.error_begun.ensures.error

pub returns-clause-tells : goal.returns-clause-tells
returns-clause-tells g c = tells_either (g.W.SwapFile.content c.args.swap.now) (g.W.SwapFile.last c.args.swap.now) (g.W.SwapFile.read_faults c.args.swap.now) (g.W.SwapFile.write_faults c.args.swap.now) (g.W.SwapFile.is_truthful c.args.swap.now) (g.W.SwapFile.is_honest c.args.swap.now) c.args.live.now c.error_begun.result c.error_begun.ensures.fault

pub returns-clause-refused : goal.returns-clause-refused
returns-clause-refused g c = taken_want (g.W.SwapFile.content c.args.swap.now) c.args.live.now (λ w. clone_name w (chars c.args.name.now)) c.error_begun.result c.error_begun.ensures.fault
