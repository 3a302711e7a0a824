use Rattle.std.proofs.lemmas.Result.{IfOk-weaker}
use Rattle.lp_driver.specs.Starting.{asking_start}
use Rattle.lp_driver.proofs.Rested.{on_ok_by}
use Rattle.lp_driver.proofs.Starts.{start_asked, start_rests}
use Rattle.lp_driver.proofs.starting.ask.Goals as goal

pub returns-clause-goes : goal.returns-clause-goes
returns-clause-goes g c =
    IfOk-weaker c.tell_start.result _ _
    (λ going t. start_asked c.args.call c.args.waiting c.in_ok-end.end going (g.W.SwapFile.content c.args.swap.now) (g.W.SwapFile.content c.carry.new.swap) (g.W.SwapFile.content c.tell_start.new.swap) c.args.live.now c.carry.new.live c.tell_start.new.live c.outcomes_can_be.ensures
    c.in_ok-end.ensures.carries (c.knows_for.ensures c.if-not-knows_for.false) t) c.tell_start.ensures.takes

pub returns-clause-rests : goal.returns-clause-rests
returns-clause-rests g c =
    on_ok_by c.tell_start.result
    (λ going t. start_rests (asking_start c.args.call c.args.waiting) going (g.W.SwapFile.content c.args.swap.now) (g.W.SwapFile.content c.tell_start.new.swap) c.args.live.now c.tell_start.new.live c.law_there_is_one.ensures
    (start_asked c.args.call c.args.waiting c.in_ok-end.end going (g.W.SwapFile.content c.args.swap.now) (g.W.SwapFile.content c.carry.new.swap) (g.W.SwapFile.content c.tell_start.new.swap) c.args.live.now c.carry.new.live c.tell_start.new.live c.outcomes_can_be.ensures c.in_ok-end.ensures.carries (c.knows_for.ensures c.if-not-knows_for.false) t)
    c.requires.rests) c.tell_start.ensures.takes
