use Rattle.std.proofs.lemmas.Result.{IfOk-weaker}
use Rattle.lp_meaning.specs.EventTurns.{starting}
use Rattle.lp_driver.proofs.Starts.{led_there, start_ends}
use Rattle.lp_driver.proofs.starting.run_start.Goals as goal

pub run_stages-requires-clause-object : goal.run_stages-requires-clause-object
run_stages-requires-clause-object g c = led_there starting c.in_ok-first.first (g.W.SwapFile.content c.args.swap.now) c.args.live.now c.args.live.now c.in_ok-first.ensures.begins c.requires.rests

pub returns-clause-ends : goal.returns-clause-ends
returns-clause-ends g c =
    IfOk-weaker c.run_texts.result _ _
    (λ r h. start_ends c.in_ok-first.first c.in_ok-last.last r (g.W.SwapFile.content c.args.swap.now) (g.W.SwapFile.content c.run_stages.new.swap) (g.W.SwapFile.content c.run_texts.new.swap) c.args.live.now c.run_stages.new.live c.run_texts.new.live c.in_ok-first.ensures.begins c.in_ok-last.ensures.steps h)
    c.run_texts.ensures.ends

pub run_stages-requires-clause-values : goal.run_stages-requires-clause-values
run_stages-requires-clause-values g c = c.in_ok-first.ensures.there c.args.live.now.cells
