use Rattle.std.proofs.Common.{◌∙◌}
use Rattle.lp_loading.specs.Loads.{loads_of}
use Rattle.lp_loading.proofs.SeenNames.{if_ok}
use Rattle.lp_loading.proofs.SimulFirst.{missing_is}
use Rattle.lp_loading.proofs.asking.simul_missing.Goals as goal

pub returns-in-Some : goal.returns-in-Some
returns-in-Some c =
    let loads = loads_of c.args.loads.now in
    if_ok c.missing_named.result _ _
    (λ o f told programs w h. f told programs w h ∙ missing_is told programs c.args.live.now w c.in-Some.name loads h c.in-Some.is) c.missing_named.ensures
