use Rattle.std.proofs.Common.{◌∙◌, ap, sym}
use Rattle.lp_loading.specs.Loads.{loads_of}
use Rattle.lp_loading.specs.Simuls.{names_seen}
use Rattle.lp_loading.proofs.SeenNames.{if_ok, names_are_seen, seen_named}
use Rattle.lp_targets.specs.Brought.{Brings}
use Rattle.lp_loading.specs.declared.job.LoadFault.TheVariants as faults
use Rattle.lp_loading.proofs.Brought.{exit, none_brought, none_failed}
use Rattle.lp_loading.proofs.simuls.simul_names.Goals as goal

pub returns-in-Some-clause-sees : goal.returns-in-Some-clause-sees
returns-in-Some-clause-sees g c =
    let told = g.W.SwapFile.content c.args.swap.now in
    let loads = loads_of c.args.loads.now in
    if_ok c.names_of_object.result _ _
    (λ names f programs w h.
    let seen = sym (c.in_ok-seen.ensures told programs w h.stands) ∙ c.in-Some.is in
    let n = seen_named w loads c.in-Some.ob seen in
    f programs w n.0 h n.1 ∙ ap (names_seen w) (sym seen) ∙ names_are_seen w loads)
    c.names_of_object.ensures.names

pub returns-in_ok-no_names-in-None-clause-sees : goal.returns-in_ok-no_names-in-None-clause-sees
returns-in_ok-no_names-in-None-clause-sees g c = λ programs w h.
    let seen = sym (c.in_ok-seen.ensures (g.W.SwapFile.content c.args.swap.now) programs w h.stands) ∙ c.in-None.is in
    c.in_ok-no_names-in-None.ensures w ∙ ap (names_seen w) (sym seen) ∙ names_are_seen w (loads_of c.args.loads.now)

pub returns-in_err-seen-clause-brings : goal.returns-in_err-seen-clause-brings
returns-in_err-seen-clause-brings g c = exit (λ r. Brings (g.W.SwapFile.content c.args.swap.now) (g.W.SwapFile.content c.args.swap.now) (g.W.SwapFile.last c.args.swap.now) (g.W.SwapFile.read_faults c.args.swap.now) (g.W.SwapFile.read_faults c.args.swap.now) (g.W.SwapFile.write_faults c.args.swap.now) (g.W.SwapFile.write_faults c.args.swap.now) (g.W.SwapFile.is_truthful c.args.swap.now) (g.W.SwapFile.is_truthful c.args.swap.now) (g.W.SwapFile.is_honest c.args.swap.now) (g.W.SwapFile.is_honest c.args.swap.now) c.args.live.now c.args.live.now r) c.from_residual.result faults.NoMemory c.from_residual.ensures.1 (none_failed (g.W.SwapFile.content c.args.swap.now) (g.W.SwapFile.last c.args.swap.now) (g.W.SwapFile.read_faults c.args.swap.now) (g.W.SwapFile.write_faults c.args.swap.now) (g.W.SwapFile.is_truthful c.args.swap.now) (g.W.SwapFile.is_honest c.args.swap.now) c.args.live.now faults.NoMemory tt)

pub returns-in_err-no_names-in-None-clause-brings : goal.returns-in_err-no_names-in-None-clause-brings
returns-in_err-no_names-in-None-clause-brings g c = exit (λ r. Brings (g.W.SwapFile.content c.args.swap.now) (g.W.SwapFile.content c.args.swap.now) (g.W.SwapFile.last c.args.swap.now) (g.W.SwapFile.read_faults c.args.swap.now) (g.W.SwapFile.read_faults c.args.swap.now) (g.W.SwapFile.write_faults c.args.swap.now) (g.W.SwapFile.write_faults c.args.swap.now) (g.W.SwapFile.is_truthful c.args.swap.now) (g.W.SwapFile.is_truthful c.args.swap.now) (g.W.SwapFile.is_honest c.args.swap.now) (g.W.SwapFile.is_honest c.args.swap.now) c.args.live.now c.args.live.now r) c.from_residual-in_err-no_names-in-None.result faults.NoMemory c.from_residual-in_err-no_names-in-None.ensures.1 (none_failed (g.W.SwapFile.content c.args.swap.now) (g.W.SwapFile.last c.args.swap.now) (g.W.SwapFile.read_faults c.args.swap.now) (g.W.SwapFile.write_faults c.args.swap.now) (g.W.SwapFile.is_truthful c.args.swap.now) (g.W.SwapFile.is_honest c.args.swap.now) c.args.live.now faults.NoMemory tt)

pub returns-in_ok-no_names-in-None-clause-brings : goal.returns-in_ok-no_names-in-None-clause-brings
returns-in_ok-no_names-in-None-clause-brings g c = none_brought (g.W.SwapFile.content c.args.swap.now) (g.W.SwapFile.last c.args.swap.now) (g.W.SwapFile.read_faults c.args.swap.now) (g.W.SwapFile.write_faults c.args.swap.now) (g.W.SwapFile.is_truthful c.args.swap.now) (g.W.SwapFile.is_honest c.args.swap.now) c.args.live.now
