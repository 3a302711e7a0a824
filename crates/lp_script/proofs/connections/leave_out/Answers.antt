use Rattle.std.proofs.Common.{◌<◌, ◌∙◌, ap, not, length, arith}
use Rattle.std.proofs.lemmas.Bool.{ne_eqb}
use Rattle.std.proofs.lemmas.List.Filters.{FiltersInPlace-all, FiltersInPlace-more_no, FiltersInPlace-more_set}
use Rattle.lp_script.proofs.Exact.{eqb-of}
use Rattle.lp_script.proofs.connections.leave_out.Goals as goal
use Rattle.lp_script.proofs.connections.leave_out.Goals.{then-n-k, else-n-k}

pub loop-i-preserved : goal.loop-i-preserved
loop-i-preserved c =
    let within : c.loop-i.i < length c.loop-i.numbers.items = omega (arith, c.loop-i-test.true, c.len-i-end.ensures, c.args.numbers.now.ok.0, c.loop-i.invariant.long) in
    elim c.if-n-k.branch [
      | then-n-k w ↦ rw (w.numbers-is, w.kept-is) (FiltersInPlace-more_set c.loop-i.invariant within (ap not (ne_eqb _ _ w.if-n-k.true)) c.index-n.ensures)
      | else-n-k w ↦ rw (w.numbers-is, w.kept-is) (FiltersInPlace-more_no c.loop-i.invariant within (ap not (eqb-of w.if-n-k.false)) c.index-n.ensures)
    ]

pub returns : goal.returns
returns c = c.truncate.ensures.items ∙ FiltersInPlace-all c.loop-i.invariant (omega (arith, c.loop-i-test.false, c.len-i-end.ensures, c.args.numbers.now.ok.0))
