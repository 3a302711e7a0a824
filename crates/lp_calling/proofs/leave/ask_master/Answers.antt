use Rattle.lp_calling.proofs.Leaving.{master_asked}
use Rattle.lp_calling.proofs.leave.ask_master.Goals as goal

pub returns-clause-goes : goal.returns-clause-goes
returns-clause-goes c = λ live turn budget.
    let a = c.args in
    master_asked a.efun a.m a.wish.now c.applied.result c.in_ok-n.n a.low a.stack.now.items c.lay_wish.new.stack.items live turn budget c.requires.low c.requires.wish c.applied.ensures c.in_ok-n.ensures.count c.in_ok-n.ensures.items
