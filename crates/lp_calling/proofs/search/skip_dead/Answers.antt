use Rattle.std.proofs.Common.{◌≡◌, ◌∙◌, ◌<◌, ◌≤◌, Some, arith, length, slice_get, sym}
use Rattle.lp_calling.proofs.Lists.{got_read}
use Rattle.lp_calling.proofs.Searches.{all_passed, none_passed, one_passed, passed_to}
use Rattle.lp_calling.proofs.search.skip_dead.Goals as goal

pub loop-n-init : goal.loop-n-init
loop-n-init c = record { passed = none_passed c.args.live.now c.args.objects.now.items c.args.done; more = omega arith }

pub returns-then-is_live : goal.returns-then-is_live
returns-then-is_live c =
    let os = c.args.objects.now.items in
    let o = c.index.result.now in
    let within : c.loop-n.n < length os = omega arith in
    let at : slice_get os c.loop-n.n ≡ Some o = got_read os c.loop-n.n o within c.index.ensures in
    passed_to c.args.live.now os c.args.done c.loop-n.n o at (sym c.is_live.ensures ∙ c.if-is_live.true) c.loop-n.invariant.more c.loop-n.invariant.passed

pub loop-n-preserved : goal.loop-n-preserved
loop-n-preserved c =
    let os = c.args.objects.now.items in
    let o = c.index.result.now in
    let within : c.loop-n.n < length os = omega arith in
    let at : slice_get os c.loop-n.n ≡ Some o = got_read os c.loop-n.n o within c.index.ensures in
    record {
      passed = one_passed c.args.live.now os c.args.done c.loop-n.n o at (sym c.is_live.ensures ∙ c.if-is_live.false) c.loop-n.invariant.passed;
      more = omega (arith, c.loop-n.invariant.more);
    }

pub returns : goal.returns
returns c =
    let out : length c.args.objects.now.items ≤ c.loop-n.n = omega arith in
    all_passed c.args.live.now c.args.objects.now.items c.args.done c.loop-n.n out c.loop-n.invariant.more c.loop-n.invariant.passed
