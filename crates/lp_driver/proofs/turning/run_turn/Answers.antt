use Rattle.lp_turn.specs.Turns.{going_course}
use Rattle.lp_driver.proofs.Rested.{on_ok_of}
use Rattle.lp_driver.proofs.Turns.{step_ends, step_rests, step_there}
use Rattle.lp_driver.proofs.turning.run_turn.Goals as goal

pub run_step-requires-clause-rests : goal.run_step-requires-clause-rests
run_step-requires-clause-rests g c = step_rests (going_course c.args.going) c.in_ok-step.step (g.W.SwapFile.content c.args.swap.now) c.args.live.now c.next.new.live c.in_ok-step.ensures.goes c.requires.rests

pub run_step-requires-clause-object : goal.run_step-requires-clause-object
run_step-requires-clause-object g c = step_there (going_course c.args.going) c.in_ok-step.step (g.W.SwapFile.content c.args.swap.now) c.args.live.now c.next.new.live c.in_ok-step.ensures.goes c.requires.rests

pub returns-clause-ends : goal.returns-clause-ends
returns-clause-ends g c =
    on_ok_of c.run_step.result (step_ends (going_course c.args.going) c.in_ok-step.step (g.W.SwapFile.content c.args.swap.now) (g.W.SwapFile.content c.run_step.new.swap) c.args.live.now c.next.new.live c.run_step.new.live c.in_ok-step.ensures.goes) c.run_step.ensures.ends
