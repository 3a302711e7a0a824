use Rattle.std.proofs.Common.{◌∙◌, ap, arith, sym}
use Rattle.lp_timers.specs.Timing.{Timing}
use Rattle.lp_timers.specs.Waiting.{numbered}
use Rattle.lp_turn.specs.TickSteps.{without_number}
use Rattle.lp_turn.proofs.CalledOut.{passed_over, taken_number}
use Rattle.lp_turn.proofs.Searched.{shorter}
use Rattle.lp_turn.proofs.Timed.{nothing_taken}
use Rattle.lp_turn.proofs.call_outs.take_next.Goals as goal

pub returns-in-Some-take-clause-left : goal.returns-in-Some-take-clause-left
returns-in-Some-take-clause-left c =
    let n = c.in-Some.number in
    let d = c.in-Some-take.call_out in
    c.in-Some-take.ensures.left ∙ ap (λ t. without_number t n) c.loop-number.invariant.same ∙ ap (without_number c.args.timers.now) (sym (taken_number c.loop-number.timers n d c.in-Some-take.ensures.taken))

pub loop-number-preserved : goal.loop-number-preserved
loop-number-preserved c =
    let n = c.in-Some.number in
    let l = c.loop-number in
    let s = shorter l.numbers c.next.new.self n c.in-Some.ensures in
    let f = l.invariant.fewer in
    record {
      same = nothing_taken l.timers c.take.new.self n c.in_default-take.ensures.left c.in_default-take.ensures.taken ∙ l.invariant.same;
      first = passed_over c.args.timers.now l.numbers c.next.new.self n c.in-Some.ensures (c.in_default-take.ensures.taken ∙ ap (λ (t : Timing). numbered t.call_outs n) l.invariant.same) ∙ l.invariant.first;
      fewer = omega (arith, s, f);
    }
