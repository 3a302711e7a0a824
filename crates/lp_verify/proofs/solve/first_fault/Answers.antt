use Rattle.std.proofs.Common.{arith, length, ◌∙◌}
use Rattle.lp_verify.specs.Walks.{facts}
use Rattle.lp_verify.proofs.Soundness.{clean_from, functions_sound}
use Rattle.lp_verify.proofs.Looking.{none_more, least_here, none_all, facts_size}
use Rattle.lp_verify.proofs.solve.first_fault.Goals as goal

pub returns-then-is_bad-clause-least : goal.returns-then-is_bad-clause-least
returns-then-is_bad-clause-least c = least_here c.args.body.now c.loop-at.at c.in_ok-walk.walk c.index.result.now c.is_bad.result c.in_ok-walk.ensures.all (let s = c.in_ok-walk.ensures.size in omega (arith, s, c.loop-at-test.true, c.places-at-end.ensures)) c.index.ensures c.is_bad.ensures c.if-is_bad.true c.loop-at.invariant

pub loop-at-preserved : goal.loop-at-preserved
loop-at-preserved c = none_more c.args.body.now c.loop-at.at c.in_ok-walk.walk c.index.result.now c.is_bad.result c.in_ok-walk.ensures.all (let s = c.in_ok-walk.ensures.size in omega (arith, s, c.loop-at-test.true, c.places-at-end.ensures)) c.index.ensures c.is_bad.ensures c.if-is_bad.false c.loop-at.invariant

pub returns-clause-least : goal.returns-clause-least
returns-clause-least c = none_all c.args.body.now c.loop-at.at (length c.args.body.now.instrs) (omega (arith, c.loop-at-test.false, c.places-at-end.ensures)) c.loop-at.invariant

pub returns-clause-functions : goal.returns-clause-functions
returns-clause-functions c = λ e rows. functions_sound c.args.body.now (facts c.in_ok-walk.walk)
    (clean_from c.args.body.now (facts c.in_ok-walk.walk) c.in_ok-walk.ensures.all (facts_size c.in_ok-walk.walk ∙ c.in_ok-walk.ensures.size) (none_all c.args.body.now c.loop-at.at (length c.args.body.now.instrs) (omega (arith, c.loop-at-test.false, c.places-at-end.ensures)) c.loop-at.invariant)) rows
