use Rattle.std.proofs.Common.{◌≡◌, suc, ◌-◌, arith}
use Rattle.std.proofs.lemmas.Result.{err_from_is_err_and}
use Rattle.lp_workload.proofs.EventLemmas.{underway_first, underway_last, underway_next, underway_stop}
use Rattle.lp_workload.proofs.writing.write_events.Goals as goal

pub loop-left-init : goal.loop-left-init
loop-left-init g c = underway_first _ _ _ _ c.seed_from_u64-generator.ensures.same

pub write_next-requires : goal.write_next-requires
write_next-requires g c = let early = c.loop-left.invariant.early in omega (arith, early, c.ranges.count.fits)

pub returns-in_err-moment : goal.returns-in_err-moment
returns-in_err-moment g c =
    let p = err_from_is_err_and c.from_residual.result c.from_residual.ensures.1 in
    let one : c.loop-left.left ≡ suc (c.loop-left.left - 1) = omega (arith, c.loop-left-test.true) in
    rw (p.1, p.2) (underway_stop _ _ _ _ _ _ _ _ _ _ c.loop-left.invariant one c.in_err-moment.ensures.wrote)

pub loop-left-preserved : goal.loop-left-preserved
loop-left-preserved g c =
    let one : c.loop-left.left ≡ suc (c.loop-left.left - 1) = omega (arith, c.loop-left-test.true) in
    underway_next _ _ _ _ _ _ _ _ _ _ _ _ c.loop-left.invariant one c.in_ok-moment.ensures.wrote c.in_ok-moment.ensures.moment c.in_ok-moment.ensures.generator

pub returns : goal.returns
returns g c = underway_last _ _ _ _ _ _ _ c.loop-left.invariant (omega (arith, c.loop-left-test.false))
