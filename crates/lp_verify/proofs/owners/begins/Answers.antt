use Rattle.std.proofs.Common.{◌≡◌, ℕ, replicate, rules, sym, subst, List, take, ◌+◌}
use Rattle.lp_verify.specs.Marks.{MarksBegins}
use Rattle.lp_verify.proofs.Marking.{marks_none, marks_more_at, marks_all}
use Rattle.lp_verify.proofs.owners.begins.Goals as goal

pub loop-i-init : goal.loop-i-init
loop-i-init c = let e : c.in_ok-marks.marks.items ≡ replicate c.args.places 0 = search rules in marks_none c.args.places c.args.rows.now c.in_ok-marks.marks.items e

pub loop-i-preserved : goal.loop-i-preserved
loop-i-preserved c = let P : List ℕ → Type 0 = λ z. MarksBegins c.args.places (take (c.loop-i.i + 1) c.args.rows.now) z in
    subst P (sym c.mark.ensures) (marks_more_at c.args.places c.args.rows.now c.loop-i.marks.items c.loop-i.i c.index-rows-i.result c.loop-i-test.true c.index-rows-i.is c.loop-i.invariant)

pub returns : goal.returns
returns c = marks_all c.args.places c.args.rows.now c.loop-i.marks.items c.loop-i.i c.loop-i-test.false c.loop-i.invariant
