use Rattle.std.proofs.lemmas.Result.{IfOk-weaker}
use Rattle.lp_turn.proofs.CalledOut.{call_goes, no_call_goes, taken_there}
use Rattle.lp_turn.proofs.Timed.{closed_taken}
use Rattle.lp_turn.proofs.call_outs.call_next.Goals as goal

pub call-requires : goal.call-requires
call-requires c = record { there = taken_there c.args.live.now c.args.numbers c.take_next.new.numbers c.in-Some.call_out c.requires.closed c.in-Some.ensures.first }

pub returns-in-Some-clause-goes : goal.returns-in-Some-clause-goes
returns-in-Some-clause-goes c =
    IfOk-weaker c.call.result _ _
    (λ r b. call_goes c.args.live.now c.take_next.new.timers c.args.numbers c.take_next.new.numbers c.in-Some.call_out r c.in-Some.ensures.first c.in-Some.ensures.left b) c.call.ensures.begins

pub returns-in-Some-clause-closed : goal.returns-in-Some-clause-closed
returns-in-Some-clause-closed c = closed_taken c.args.live.now c.take_next.new.timers c.in-Some.call_out.number c.requires.closed c.in-Some.ensures.left

pub returns-in-None-clause-goes : goal.returns-in-None-clause-goes
returns-in-None-clause-goes c = no_call_goes c.args.live.now c.take_next.new.timers c.args.numbers c.take_next.new.numbers c.in-None.ensures.first c.in-None.ensures.left
