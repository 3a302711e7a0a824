use Rattle.std.proofs.Common.{take, drop, sym, ◌∙◌}
use Rattle.lp_tree.specs.declared.fault.FaultKind.TheVariants.{TooManyNames}
use Rattle.lp_types_expr.specs.ExprFaults.{when}
use Rattle.lp_layout.specs.LayoutFaults.{limits}
use Rattle.lp_layout.proofs.FirstFaults.{item_here, item_next}
use Rattle.lp_layout.proofs.faults.items_fault.Goals as goal

pub returns-in-Some : goal.returns-in-Some
returns-in-Some c =
    let ts = c.args.parents.now in
    let n = c.loop-i.passed in
    sym (c.loop-i.invariant.rest ∙ item_here limits (when c.loop-i.is_whole TooManyNames) (take n ts) (drop n ts) c.args.items.now c.loop-i.i c.index-items-i.result c.in-Some.fault c.loop-i-test.true c.index-items-i.is (sym (c.in_ok-fault.ensures c.loop-i.invariant.knows) ∙ c.in-Some.is))

pub loop-i-preserved : goal.loop-i-preserved
loop-i-preserved c =
    let ts = c.args.parents.now in
    let n = c.loop-i.passed in
    let m = c.in_ok-passed.passed in
    record {
      inside = c.in_ok-passed.ensures.inside;
      knows = c.in_ok-passed.ensures.knows c.loop-i.invariant.knows;
      rest = c.loop-i.invariant.rest ∙ item_next limits (when c.loop-i.is_whole TooManyNames) (take n ts) (drop n ts) (take m ts) (drop m ts) c.args.items.now c.loop-i.i c.index-items-i.result c.loop-i-test.true c.index-items-i.is (sym (c.in_ok-fault.ensures c.loop-i.invariant.knows) ∙ c.in-None.is) c.in_ok-passed.ensures.earlier c.in_ok-passed.ensures.others;
    }
