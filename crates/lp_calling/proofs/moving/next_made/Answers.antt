use Rattle.std.proofs.Common.{◌<◌, ◌≤◌, arith, length, rules, subst}
use Rattle.lp_calling.specs.Moving.{TellsMade}
use Rattle.lp_calling.proofs.Lists.{got_read}
use Rattle.lp_calling.proofs.Visits.{made_next, none_next, none_passed, one_passed}
use Rattle.lp_calling.proofs.moving.next_made.Goals as goal

pub loop-at-init : goal.loop-at-init
loop-at-init c = record { within = c.requires; order = omega arith; passes = none_passed c.args.live.now c.args.item c.args.dest c.args.calls.now.items c.args.from }

pub returns-then-is_made-clause-made : goal.returns-then-is_made-clause-made
returns-then-is_made-clause-made c =
    let a = c.args in
    let x = c.index-call.result.now in
    let inside : c.loop-at.at < length a.calls.now.items = search rules in
    made_next a.live.now a.item a.dest a.calls.now.items c.loop-at.at x (got_read a.calls.now.items c.loop-at.at x inside c.index-call.ensures)
    (subst (λ b. TellsMade b a.live.now a.item a.dest x) c.if-is_made.true c.is_made.ensures.is) (c.is_made.ensures.lives c.if-is_made.true)

pub loop-at-preserved : goal.loop-at-preserved
loop-at-preserved c =
    let a = c.args in
    let x = c.index-call.result.now in
    let inside : c.loop-at.at < length a.calls.now.items = search rules in
    record {
      within = omega arith;
      order = omega arith;
      passes = one_passed a.live.now a.item a.dest a.calls.now.items a.from c.loop-at.at x c.loop-at.invariant.passes (got_read a.calls.now.items c.loop-at.at x inside c.index-call.ensures)
          (subst (λ b. TellsMade b a.live.now a.item a.dest x) c.if-is_made.false c.is_made.ensures.is);
    }

pub returns-clause-made : goal.returns-clause-made
returns-clause-made c =
    let over : length c.args.calls.now.items ≤ c.loop-at.at = search rules in
    none_next c.args.live.now c.args.item c.args.dest c.args.calls.now.items c.loop-at.at over
