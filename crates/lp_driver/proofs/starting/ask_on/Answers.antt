use Rattle.lp_turn.specs.Starts.{start_going}
use Rattle.lp_driver.specs.Starting.{asking_start}
use Rattle.lp_driver.proofs.Starts.{led_rests, led_there, start_stepped}
use Rattle.lp_driver.proofs.starting.ask_on.Goals as goal

pub returns-clause-steps : goal.returns-clause-steps
returns-clause-steps g c =
    start_stepped (asking_start c.args.call c.args.waiting) c.in_ok-going.going _ (g.W.SwapFile.content c.args.swap.now) (g.W.SwapFile.content c.ask.new.swap) c.args.live.now c.ask.new.live c.go_on.new.live c.in_ok-going.ensures.goes c.in_ok-go_on.ensures.goes

pub returns-clause-object : goal.returns-clause-object
returns-clause-object g c = led_there (start_going c.in_ok-going.going) _ (g.W.SwapFile.content c.ask.new.swap) c.ask.new.live c.go_on.new.live c.in_ok-go_on.ensures.goes c.in_ok-going.ensures.rests

pub returns-clause-values : goal.returns-clause-values
returns-clause-values g c = c.in_ok-go_on.ensures.there c.go_on.new.live.cells

pub returns-clause-rests : goal.returns-clause-rests
returns-clause-rests g c = led_rests (start_going c.in_ok-going.going) _ (g.W.SwapFile.content c.ask.new.swap) c.ask.new.live c.go_on.new.live c.in_ok-go_on.ensures.goes c.in_ok-going.ensures.rests
