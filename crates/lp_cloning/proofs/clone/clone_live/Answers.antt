use Rattle.lp_cloning.proofs.Telling.{tells_no_memory}
use Rattle.std.specs.Str.{chars}
use Rattle.lp_meaning.specs.FileLoads.{cloning}
use Rattle.lp_targets.proofs.Lookups.{if_ok}
use Rattle.lp_cloning.specs.Beginning.{made_of}
use Rattle.lp_cloning.proofs.Cloned.{cloning_same, starts_as}
use Rattle.lp_cloning.proofs.clone.clone_live.Goals as goal

pub returns-in-Some-clause-starts : goal.returns-in-Some-clause-starts
returns-in-Some-clause-starts g c =
    let told = g.W.SwapFile.content c.args.swap.now in
    let name = chars c.args.name.now in
    let live = c.args.live.now in
    let x = c.version_of.ensures c.in-Some.version c.in-Some.is in
    if_ok c.clone_version.result (λ r h.
    starts_as r (made_of name c.in-Some.version) (λ by s. cloning by name c.args.o s) told live c.clone_version.new.live
    (λ k by turn b s q f. cloning_same k live turn b s name c.args.o x.0 c.in-Some.version by f x.1 x.2) h)
    c.clone_version.ensures.starts

pub returns-in-None-clause-tells : goal.returns-in-None-clause-tells
returns-in-None-clause-tells g c = tells_no_memory (g.W.SwapFile.content c.args.swap.now) (g.W.SwapFile.last c.args.swap.now) (g.W.SwapFile.read_faults c.args.swap.now) (g.W.SwapFile.write_faults c.args.swap.now) (g.W.SwapFile.is_truthful c.args.swap.now) (g.W.SwapFile.is_honest c.args.swap.now) c.args.live.now
