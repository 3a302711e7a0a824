use Rattle.std.proofs.Common.{arith, subst, sym}
use Rattle.lp_step.specs.Steps.{Brings}
use Rattle.lp_run.proofs.Reading.{brought_up}
use Rattle.lp_run.proofs.common.rotate.Goals as goal

pub returns-in-2 : goal.returns-in-2
returns-in-2 c = λ live budget.
    brought_up c.args.n live c.args.stack.now.items c.bring_second.new.stack.items c.args.frame.now c.args.at.now budget (omega (arith, c.in-2.is)) c.requires.operands
    (subst (λ n. Brings n c.args.stack.now.items c.bring_second.new.stack.items) (sym c.in-2.is) c.bring_second.ensures)

pub returns-in-3 : goal.returns-in-3
returns-in-3 c = λ live budget.
    brought_up c.args.n live c.args.stack.now.items c.bring_third.new.stack.items c.args.frame.now c.args.at.now budget (omega (arith, c.in-3.is)) c.requires.operands
    (subst (λ n. Brings n c.args.stack.now.items c.bring_third.new.stack.items) (sym c.in-3.is) c.bring_third.ensures)
