use Rattle.lp_turn.specs.Turns.{going_course}
use Rattle.lp_driver.specs.Turning.{asking_course}
use Rattle.lp_driver.proofs.Turns.{fewer_on, step_rests, step_there, turn_stepped}
use Rattle.lp_driver.proofs.turning.ask_on.Goals as goal

pub returns-clause-steps : goal.returns-clause-steps
returns-clause-steps g c =
    turn_stepped (asking_course c.args.call c.args.waiting) c.in_ok-going.going _ (g.W.SwapFile.content c.args.swap.now) (g.W.SwapFile.content c.ask.new.swap) c.args.live.now c.ask.new.live c.next.new.live c.in_ok-going.ensures.goes c.in_ok-next.ensures.goes

pub returns-clause-fewer : goal.returns-clause-fewer
returns-clause-fewer g c = fewer_on _ c.in_ok-going.going c.args.waiting c.in_ok-next.ensures.fewer c.in_ok-going.ensures.fewer

pub returns-clause-object : goal.returns-clause-object
returns-clause-object g c = step_there (going_course c.in_ok-going.going) _ (g.W.SwapFile.content c.ask.new.swap) c.ask.new.live c.next.new.live c.in_ok-next.ensures.goes c.in_ok-going.ensures.rests

pub returns-clause-rests : goal.returns-clause-rests
returns-clause-rests g c = step_rests (going_course c.in_ok-going.going) _ (g.W.SwapFile.content c.ask.new.swap) c.ask.new.live c.next.new.live c.in_ok-next.ensures.goes c.in_ok-going.ensures.rests
