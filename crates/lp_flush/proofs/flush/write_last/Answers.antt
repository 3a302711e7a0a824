use Rattle.std.proofs.Common.{◌≡◌, ◌+◌, ◌<◌, ◌≤◌, length, string_bytes, sym, ap, refl, ◌∙◌, subst, arith}
use Rattle.lp_files.specs.Store.{changed_in, file_at}
use Rattle.lp_flush.proofs.Going.{begun, step_kept, step_stops}
use Rattle.lp_flush.proofs.flush.write_last.Goals as goal

pub loop-init : goal.loop-init
loop-init g c = record {
  goes = λ swap s. s;
  ran = λ swap origin turns r. r;
  files = λ q. refl;
  going = begun _ _ _ _;
}

pub returns-in-Failed-clause-stops : goal.returns-in-Failed-clause-stops
returns-in-Failed-clause-stops g c =
    let within : c.loop.counter < length (changed_in (g.C.Core.stored c.args.core.now)) = omega (arith, c.loop-test.true, c.count_of-tries.ensures, ap (λ s. length (changed_in s)) c.store.ensures) in
    let shown : changed_in c.store-in-loop.result.now ≡ changed_in (g.C.Core.stored c.loop.core) = ap changed_in c.store-in-loop.ensures in
    step_stops c.loop.invariant.going within _ c.in_ok-path.path _ shown c.as_str.ensures.value c.in_ok-path.ensures.path _ _ _ _ c.in-Failed.ensures.changed (c.loop.invariant.files _) c.in-Failed.ensures.tries

pub loop-preserved : goal.loop-preserved
loop-preserved g c =
    let within : c.loop.counter < length (changed_in (g.C.Core.stored c.args.core.now)) = omega (arith, c.loop-test.true, c.count_of-tries.ensures, ap (λ s. length (changed_in s)) c.store.ensures) in
    let shown : changed_in c.store-in-loop.result.now ≡ changed_in (g.C.Core.stored c.loop.core) = ap changed_in c.store-in-loop.ensures in
    record {
      goes = λ swap s. c.write_one.ensures.goes swap (c.loop.invariant.goes swap s);
      ran = λ swap origin turns r. c.write_one.ensures.ran swap origin turns (c.loop.invariant.ran swap origin turns r);
      files = λ q. c.write_one.ensures.files q ∙ c.loop.invariant.files q;
      going = step_kept c.loop.invariant.going within _ _ _ shown c.as_str.ensures.value c.in_ok-path.ensures.path c.in_ok-path.ensures.rising _ _ _ _ _ c.in-Kept.ensures.changed (c.loop.invariant.files _) c.in-Kept.ensures.tries refl;
    }
