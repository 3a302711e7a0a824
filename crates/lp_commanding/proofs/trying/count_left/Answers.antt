use Rattle.std.proofs.Common.{arith, subst}
use Rattle.lp_commanding.specs.Trying.{IsTried}
use Rattle.lp_commanding.proofs.Tried.{one_passed, one_tried}
use Rattle.lp_commanding.proofs.trying.count_left.Goals as goal

pub returns-then-is_tried : goal.returns-then-is_tried
returns-then-is_tried c =
    let live = c.args.live.now in
    let o = c.args.holder in
    let x = c.index-left-n.result in
    one_tried live o c.args.left.now c.loop-n.n x c.loop-n-test.true c.loop-n.invariant.within c.index-left-n.is
    (subst (λ b. IsTried b live o x) c.if-is_tried.true c.is_tried.ensures.tried) (c.is_tried.ensures.giver c.if-is_tried.true) c.loop-n.invariant.same

pub loop-n-preserved : goal.loop-n-preserved
loop-n-preserved c =
    let live = c.args.live.now in
    let o = c.args.holder in
    let x = c.index-left-n.result in
    record {
      within = omega arith;
      same = one_passed live o c.args.left.now c.loop-n.n x c.loop-n-test.true c.loop-n.invariant.within c.index-left-n.is
          (subst (λ b. IsTried b live o x) c.if-is_tried.false c.is_tried.ensures.tried) c.loop-n.invariant.same;
    }
