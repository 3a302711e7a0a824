use Rattle.std.proofs.Common.{ℕ, ◌+◌, sym, subst, List, arith}
use Rattle.lp_verify.proofs.Marking.{Spreads, spreads_first, spreads_more, spreads_all}
use Rattle.lp_verify.proofs.owners.owners.Goals as goal

pub loop-at-init : goal.loop-at-init
loop-at-init c = spreads_first c.args.places c.args.rows.now c.in_ok-marks.marks.items c.in_ok-marks.ensures

pub loop-at-preserved : goal.loop-at-preserved
loop-at-preserved c = let P : List ℕ → Type 0 = λ z. Spreads c.args.places c.args.rows.now (c.loop-at.at + 1) z in
    let s = c.in_ok-marks.ensures.size in
    subst P (sym c.spread.ensures) (spreads_more c.args.places c.args.rows.now c.loop-at.at c.loop-at.marks.items c.loop-at.auto.at (omega (arith, c.loop-at-test.true, s, c.len-at-end.ensures)) c.loop-at.invariant)

pub returns : goal.returns
returns c = let s = c.in_ok-marks.ensures.size in spreads_all c.args.places c.args.rows.now c.loop-at.at c.len-at-end.result c.loop-at.marks.items c.loop-at-test.false (omega (arith, s, c.len-at-end.ensures)) c.loop-at.invariant
