use Rattle.std.proofs.lemmas.Result.{IfOk-weaker}
use Rattle.lp_driver.specs.Turning.{asking_course}
use Rattle.lp_driver.proofs.Rested.{on_ok_by}
use Rattle.lp_driver.proofs.Turns.{asked_goes, goes_rests}
use Rattle.lp_driver.proofs.turning.ask.Goals as goal

pub returns-clause-goes : goal.returns-clause-goes
returns-clause-goes g c =
    IfOk-weaker c.tell_end.result _ _
    (λ going t. asked_goes c.args.call c.args.waiting c.in_ok-end.end going (g.W.SwapFile.content c.args.swap.now) (g.W.SwapFile.content c.carry.new.swap) (g.W.SwapFile.content c.tell_end.new.swap) c.args.live.now c.carry.new.live c.tell_end.new.live c.outcomes_can_be.ensures
    c.in_ok-end.ensures.carries t) c.tell_end.ensures.takes

pub returns-clause-rests : goal.returns-clause-rests
returns-clause-rests g c =
    on_ok_by c.tell_end.result
    (λ going t. goes_rests (asking_course c.args.call c.args.waiting) going (g.W.SwapFile.content c.args.swap.now) (g.W.SwapFile.content c.tell_end.new.swap) c.args.live.now c.tell_end.new.live c.law_there_is_one.ensures
    (asked_goes c.args.call c.args.waiting c.in_ok-end.end going (g.W.SwapFile.content c.args.swap.now) (g.W.SwapFile.content c.carry.new.swap) (g.W.SwapFile.content c.tell_end.new.swap) c.args.live.now c.carry.new.live c.tell_end.new.live c.outcomes_can_be.ensures c.in_ok-end.ensures.carries t)
    c.requires.rests) c.tell_end.ensures.takes
