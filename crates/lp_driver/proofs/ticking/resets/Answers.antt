use Rattle.lp_turn.specs.Ticks.{resets_due}
use Rattle.lp_driver.proofs.Rested.{on_ok_of}
use Rattle.lp_driver.proofs.Turns.{begun_rests, turn_begun}
use Rattle.lp_driver.proofs.ticking.resets.Goals as goal

pub run_turn-requires-clause-rests : goal.run_turn-requires-clause-rests
run_turn-requires-clause-rests g c = begun_rests (resets_due c.args.moment) c.in_ok-going.going (g.W.SwapFile.content c.args.swap.now) c.args.live.now c.args.live.now c.in_ok-going.ensures.begins c.requires.rests

pub returns-clause-ends : goal.returns-clause-ends
returns-clause-ends g c =
    on_ok_of c.run_turn.result
    (turn_begun (resets_due c.args.moment) c.in_ok-going.going (g.W.SwapFile.content c.args.swap.now) (g.W.SwapFile.content c.run_turn.new.swap) c.args.live.now c.args.live.now c.run_turn.new.live c.in_ok-going.ensures.begins) c.run_turn.ensures.ends
