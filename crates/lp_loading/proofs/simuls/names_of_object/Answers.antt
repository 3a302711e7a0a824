use Rattle.std.proofs.Common.{◌∙◌, ap, sym, unwrap_or}
use Rattle.lp_language.specs.Resolve.{callable_names, heritage}
use Rattle.lp_loading.proofs.SeenNames.{if_ok}
use Rattle.lp_loading.proofs.Worlds.{named_version}
use Rattle.lp_targets.specs.Brought.{Brings}
use Rattle.lp_loading.specs.declared.job.LoadFault.TheVariants as faults
use Rattle.lp_loading.proofs.Brought.{exit, none_brought, none_failed}
use Rattle.lp_loading.proofs.simuls.names_of_object.Goals as goal

pub returns-in_ok-no_names-in-None-clause-names : goal.returns-in_ok-no_names-in-None-clause-names
returns-in_ok-no_names-in-None-clause-names g c = λ programs w n h e.
    let q = sym c.in-None.is ∙ c.version_of_object.ensures ∙ named_version (g.W.SwapFile.content c.args.swap.now) programs c.args.live.now w n c.args.ob h.stands e in
    cc

pub returns-in-Some-clause-names : goal.returns-in-Some-clause-names
returns-in-Some-clause-names g c =
    if_ok c.names_of_version.result _ _
    (λ names f programs w n h e.
    let there = named_version (g.W.SwapFile.content c.args.swap.now) programs c.args.live.now w n c.args.ob h.stands e in
    f programs w h ∙ ap (λ v. callable_names (heritage w v)) (ap (λ o. unwrap_or o c.in-Some.v) (sym c.in-Some.is ∙ c.version_of_object.ensures ∙ there)))
    c.names_of_version.ensures.names

pub returns-in_err-no_names-in-None-clause-brings : goal.returns-in_err-no_names-in-None-clause-brings
returns-in_err-no_names-in-None-clause-brings g c = exit (λ r. Brings (g.W.SwapFile.content c.args.swap.now) (g.W.SwapFile.content c.args.swap.now) (g.W.SwapFile.last c.args.swap.now) (g.W.SwapFile.read_faults c.args.swap.now) (g.W.SwapFile.read_faults c.args.swap.now) (g.W.SwapFile.write_faults c.args.swap.now) (g.W.SwapFile.write_faults c.args.swap.now) (g.W.SwapFile.is_truthful c.args.swap.now) (g.W.SwapFile.is_truthful c.args.swap.now) (g.W.SwapFile.is_honest c.args.swap.now) (g.W.SwapFile.is_honest c.args.swap.now) c.args.live.now c.args.live.now r) c.from_residual.result faults.NoMemory c.from_residual.ensures.1 (none_failed (g.W.SwapFile.content c.args.swap.now) (g.W.SwapFile.last c.args.swap.now) (g.W.SwapFile.read_faults c.args.swap.now) (g.W.SwapFile.write_faults c.args.swap.now) (g.W.SwapFile.is_truthful c.args.swap.now) (g.W.SwapFile.is_honest c.args.swap.now) c.args.live.now faults.NoMemory tt)

pub returns-in_ok-no_names-in-None-clause-brings : goal.returns-in_ok-no_names-in-None-clause-brings
returns-in_ok-no_names-in-None-clause-brings g c = none_brought (g.W.SwapFile.content c.args.swap.now) (g.W.SwapFile.last c.args.swap.now) (g.W.SwapFile.read_faults c.args.swap.now) (g.W.SwapFile.write_faults c.args.swap.now) (g.W.SwapFile.is_truthful c.args.swap.now) (g.W.SwapFile.is_honest c.args.swap.now) c.args.live.now
