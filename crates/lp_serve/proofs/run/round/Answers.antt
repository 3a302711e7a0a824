use Rattle.lp_serve.proofs.Running.{round_goes, round_written}
use Rattle.std.proofs.Common.{arith, refl}
use Rattle.lp_serving.proofs.Causes.{flush_no_fall}
use Rattle.lp_serving.specs.declared.server.End.TheVariants.{NoMemory}
use Rattle.lp_serving.proofs.Cutting.{cut_none, cut_then}
use Rattle.lp_serve.proofs.run.round.Goals as goal

pub returns-in-Ok-write_changed-clause-goes : goal.returns-in-Ok-write_changed-clause-goes
returns-in-Ok-write_changed-clause-goes g c = λ origin from.
    round_written _ _ _ _ _ _ _ _ _ _ _ (c.write_changed.ensures.ran c.happen.new.swap origin)
    (round_goes c.in-Ok.happening _ _ _ _ _ _ _ _ _ _ c.in-Ok.ensures.gave (c.in-Ok-happen.ensures.does origin from) c.offer.ensures.tells)

pub returns-in-Ok-write_changed-clause-files : goal.returns-in-Ok-write_changed-clause-files
returns-in-Ok-write_changed-clause-files g c =
    let tries = flush_no_fall c.write_changed.result _ _ _ _ _ _ _ c.write_changed.ensures.flushes c.write_changed.ensures.cut in
    omega (arith, c.happen.ensures.files, tries)

pub returns-clause-files : goal.returns-clause-files
returns-clause-files g c =
    let tries = flush_no_fall c.write_changed.result _ _ _ _ _ _ _ c.write_changed.ensures.flushes c.write_changed.ensures.cut in
    omega (arith, c.happen.ensures.files, tries)

pub returns-clause-cut : goal.returns-clause-cut
returns-clause-cut g c =
    cut_then _ _ _ _ _ _ _ NoMemory (λ origin from. let t = c.in-Ok-happen.ensures.does origin from in (t.deeds, t.ran)) (cut_none _ _ g.C.Core.ran c.happen.new.core c.happen.new.swap _ _ _ NoMemory refl)
