use Rattle.lp_cloning.proofs.Arguing.{taken_if}
use Rattle.lp_cloning.proofs.Telling.{tells_no_memory}
use Rattle.std.proofs.Common.{drop}
use Rattle.std.proofs.Common.{subst}
use Rattle.std.specs.Str.{chars}
use Rattle.std.specs.String.{string_bytes}
use Rattle.lp_targets.proofs.Lookups.{if_ok}
use Rattle.lp_cloning.specs.Arguments.{IsBlueprintName}
use Rattle.lp_cloning.proofs.Arguing.{named_acts}
use Rattle.lp_cloning.proofs.begin.act.Goals as goal

pub returns-in-Ok-clause-acts : goal.returns-in-Ok-clause-acts
returns-in-Ok-clause-acts g c =
    let live = c.args.live.now in
    let name = chars (string_bytes c.in-Ok.name) in
    if_ok c.clone_of.result (λ r h. named_acts r (g.W.SwapFile.content c.args.swap.now) live c.clone_of.new.live c.args.low c.args.stack.now.items c.cut.new.stack.items name
    (subst (λ vs. IsBlueprintName live vs name) c.above.ensures c.in-Ok.ensures) c.cut.ensures.items h) c.clone_of.ensures.starts

pub returns-in-Ok-clause-refused : goal.returns-in-Ok-clause-refused
returns-in-Ok-clause-refused g c =
    let name = chars (string_bytes c.in-Ok.name) in
    taken_if (g.W.SwapFile.content c.args.swap.now) c.args.live.now (drop c.args.low c.args.stack.now.items) name c.clone_of.result (subst (λ vs. IsBlueprintName c.args.live.now vs name) c.above.ensures c.in-Ok.ensures) c.clone_of.ensures.refused

pub returns-in-Err-clause-tells : goal.returns-in-Err-clause-tells
returns-in-Err-clause-tells g c = tells_no_memory (g.W.SwapFile.content c.args.swap.now) (g.W.SwapFile.last c.args.swap.now) (g.W.SwapFile.read_faults c.args.swap.now) (g.W.SwapFile.write_faults c.args.swap.now) (g.W.SwapFile.is_truthful c.args.swap.now) (g.W.SwapFile.is_honest c.args.swap.now) c.args.live.now
