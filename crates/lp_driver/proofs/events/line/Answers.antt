use Rattle.lp_meaning.specs.EventTurns.{line_turn}
use Rattle.lp_driver.proofs.Rested.{on_ok_of}
use Rattle.lp_driver.proofs.Turns.{step_ends, step_rests, step_there}
use Rattle.lp_driver.proofs.events.line.Goals as goal

pub run_step-requires-clause-rests : goal.run_step-requires-clause-rests
run_step-requires-clause-rests g c = step_rests (line_turn c.args.number c.args.bytes.now) c.in_ok-step.step (g.W.SwapFile.content c.args.swap.now) c.args.live.now c.line.new.live c.in_ok-step.ensures.begins c.requires.rests

pub run_step-requires-clause-object : goal.run_step-requires-clause-object
run_step-requires-clause-object g c = step_there (line_turn c.args.number c.args.bytes.now) c.in_ok-step.step (g.W.SwapFile.content c.args.swap.now) c.args.live.now c.line.new.live c.in_ok-step.ensures.begins c.requires.rests

pub returns-clause-ends : goal.returns-clause-ends
returns-clause-ends g c =
    on_ok_of c.run_step.result
    (step_ends (line_turn c.args.number c.args.bytes.now) c.in_ok-step.step (g.W.SwapFile.content c.args.swap.now) (g.W.SwapFile.content c.run_step.new.swap) c.args.live.now c.line.new.live c.run_step.new.live c.in_ok-step.ensures.begins) c.run_step.ensures.ends
