use Rattle.lp_lasting_laws.specs.Numbers.{calls_due}
use Rattle.lp_driver.proofs.Rested.{on_ok_of}
use Rattle.lp_driver.proofs.Ticks.{called_out}
use Rattle.lp_driver.proofs.Turns.{begun_rests, turn_begun}
use Rattle.lp_driver.proofs.ticking.call_outs.Goals as goal

pub run_turn-requires-clause-rests : goal.run_turn-requires-clause-rests
run_turn-requires-clause-rests g c = begun_rests (calls_due c.args.moment) c.in_ok-going.going (g.W.SwapFile.content c.args.swap.now) c.args.live.now c.tick.new.live c.in_ok-going.ensures.begins c.requires.rests

pub returns-clause-ends : goal.returns-clause-ends
returns-clause-ends g c =
    let told0 = g.W.SwapFile.content c.args.swap.now in
    let told1 = g.W.SwapFile.content c.run_turn.new.swap in
    on_ok_of c.run_turn.result
    (λ h. called_out c.args.moment told0 told1 c.args.live.now c.run_turn.new.live c.law_numbers_are_enough.ensures c.in_ok-going.ensures.numbered
    (turn_begun (calls_due c.args.moment) c.in_ok-going.going told0 told1 c.args.live.now c.tick.new.live c.run_turn.new.live c.in_ok-going.ensures.begins h)) c.run_turn.ensures.ends
