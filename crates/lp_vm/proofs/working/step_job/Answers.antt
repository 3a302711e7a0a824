use Rattle.std.proofs.Common.{All, refl, subst, sym}
use Rattle.lp_cells.specs.Cells.{IsThere}
use Rattle.lp_step.specs.Steps.{IsFit}
use Rattle.lp_calling.specs.Going.{Goes, IsStepThere, Waits}
use Rattle.lp_asking.specs.Endings.{IsEndingThere}
use Rattle.lp_vm.specs.Cycle.{Works}
use Rattle.lp_vm.proofs.Workings.{can_reach, if_ok_both, job_ends, job_steps}
use Rattle.lp_vm.proofs.working.step_job.Goals as goal

pub ask-requires-clause-can : goal.ask-requires-clause-can
ask-requires-clause-can g c =
    can_reach c.args.at c.args.job.now c.next.new.job (g.W.SwapFile.content c.args.swap.now) c.args.live.now c.next.new.live c.args.stack.now.items c.next.new.stack.items c.args.asker.now (record c.args.asker.now { turn = c.next.new.turn }) c.args.budget.now c.next.new.budget c.in-Asks.n c.in-Asks.question
    (subst (λ r. Goes r c.args.job.now c.args.live.now c.args.asker.now.turn c.args.stack.now.items c.args.budget.now c.next.new.job c.next.new.live c.next.new.turn c.next.new.stack.items c.next.new.budget) c.in-Asks.is c.in_ok-answer.ensures.goes) (record { interactive = refl; loads = refl; callers = refl; depth = refl }) c.requires.can

pub returns-in-Ends-clause-steps : goal.returns-in-Ends-clause-steps
returns-in-Ends-clause-steps g c =
    let there : IsEndingThere c.next.new.live.cells c.ending_of.result = c.ending_of.ensures.there c.next.new.live.cells (subst (IsStepThere c.next.new.live.cells) c.in-Ends.is c.in_ok-answer.ensures.there) in
    subst (Works c.args.at c.args.job.now (g.W.SwapFile.content c.args.swap.now) c.args.live.now c.args.stack.now.items c.args.asker.now c.args.budget.now (g.W.SwapFile.content c.args.swap.now) c.next.new.live c.next.new.stack.items (record c.args.asker.now { turn = c.next.new.turn }) c.next.new.budget) (sym c.ending_of.ensures.ending)
    (job_ends c.args.at c.args.job.now c.next.new.job (g.W.SwapFile.content c.args.swap.now) c.args.live.now c.next.new.live c.args.stack.now.items c.next.new.stack.items c.args.asker.now (record c.args.asker.now { turn = c.next.new.turn }) c.args.budget.now c.next.new.budget c.in-Ends.answer
    (subst (λ r. Goes r c.args.job.now c.args.live.now c.args.asker.now.turn c.args.stack.now.items c.args.budget.now c.next.new.job c.next.new.live c.next.new.turn c.next.new.stack.items c.next.new.budget) c.in-Ends.is c.in_ok-answer.ensures.goes)
    (record { interactive = refl; loads = refl; callers = refl; depth = refl }) c.in_ok-answer.ensures.spends c.in_ok-answer.ensures.variables c.in_ok-answer.ensures.fit (subst (IsEndingThere c.next.new.live.cells) c.ending_of.ensures.ending there))

pub returns-in_ok-args-in-Asks-clause-steps : goal.returns-in_ok-args-in-Asks-clause-steps
returns-in_ok-args-in-Asks-clause-steps g c =
    let waits = subst (λ r. Waits r c.next.new.job c.next.new.stack.items) c.in-Asks.is c.in_ok-answer.ensures.waits in
    let fit : IsFit c.ask.new.live c.next.new.stack.items =
    record { closed = c.ask.ensures.closed; there = subst (λ cells. All (IsThere cells) c.next.new.stack.items) (sym c.ask.ensures.cells) c.in_ok-answer.ensures.fit.there } in
    if_ok_both c.ask.result
    (job_steps c.args.at c.args.job.now c.next.new.job (g.W.SwapFile.content c.args.swap.now) c.args.live.now c.next.new.live c.args.stack.now.items c.next.new.stack.items c.args.asker.now (record c.args.asker.now { turn = c.next.new.turn }) c.args.budget.now c.next.new.budget c.in-Asks.n c.in-Asks.question
    (subst (λ r. Goes r c.args.job.now c.args.live.now c.args.asker.now.turn c.args.stack.now.items c.args.budget.now c.next.new.job c.next.new.live c.next.new.turn c.next.new.stack.items c.next.new.budget) c.in-Asks.is c.in_ok-answer.ensures.goes)
    (record { interactive = refl; loads = refl; callers = refl; depth = refl }) (g.W.SwapFile.content c.ask.new.swap) c.ask.new.live c.in_ok-args-in-Asks.args c.in_ok-args-in-Asks.ensures.count c.ask.ensures.outputs c.in_ok-answer.ensures.spends c.in_ok-answer.ensures.variables c.ask.ensures.home fit c.in_ok-answer.ensures.left waits.2)
    c.ask.ensures.asks c.ask.ensures.there
