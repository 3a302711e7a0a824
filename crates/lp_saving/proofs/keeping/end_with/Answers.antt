use Rattle.std.proofs.Common.{subst}
use Rattle.lp_world.specs.Rows.{live_in}
use Rattle.lp_efuns.specs.Plain.{Finishes}
use Rattle.lp_saving.proofs.Kept.{kept_spends}
use Rattle.lp_saving.proofs.keeping.end_with.Goals as goal

pub finish-requires : goal.finish-requires
finish-requires c = record { there = c.did_of.ensures.there c.args.live.now.cells c.requires.there }

pub returns-clause-finishes : goal.returns-clause-finishes
returns-clause-finishes c =
    let a = c.args in
    subst (λ d. Finishes a.efun (live_in a.live.now.objects) a.live.now.cells d a.budget.now c.finish.result c.finish.new.budget) c.did_of.ensures.value c.finish.ensures.finishes

pub returns-clause-spends : goal.returns-clause-spends
returns-clause-spends c =
    let a = c.args in
    kept_spends a.efun (live_in a.live.now.objects) a.live.now.cells a.outcome a.budget.now c.finish.new.budget c.finish.result
    (subst (λ d. Finishes a.efun (live_in a.live.now.objects) a.live.now.cells d a.budget.now c.finish.result c.finish.new.budget) c.did_of.ensures.value c.finish.ensures.finishes)
