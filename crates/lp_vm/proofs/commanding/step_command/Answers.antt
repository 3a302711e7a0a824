use Rattle.std.proofs.Common.{All, refl, subst, sym}
use Rattle.lp_cells.specs.Cells.{IsThere}
use Rattle.lp_commanding.specs.Going.{Goes, IsAskedThere, IsStepThere}
use Rattle.lp_step.specs.Steps.{IsFit}
use Rattle.lp_run.proofs.Together.{home_later}
use Rattle.lp_vm.proofs.Commandings.{command_asks, command_ends, command_reach}
use Rattle.lp_vm.proofs.commanding.step_command.Goals as goal

pub reach_asked-requires-clause-object : goal.reach_asked-requires-clause-object
reach_asked-requires-clause-object g c = subst (IsAskedThere c.next.new.live.objects) c.in-Asks.is c.in_ok-v.ensures.asked

pub reach_asked-requires-clause-can : goal.reach_asked-requires-clause-can
reach_asked-requires-clause-can g c =
    command_reach c.args.caller c.args.job.now c.next.new.job (g.W.SwapFile.content c.args.swap.now) c.args.live.now c.next.new.live c.args.stack.now.items c.next.new.stack.items c.args.asker.now (record c.args.asker.now { turn = c.next.new.turn }) c.in-Asks.question
    (subst (λ r. Goes r c.args.job.now c.args.live.now c.args.asker.now.turn c.args.stack.now.items c.next.new.job c.next.new.live c.next.new.turn c.next.new.stack.items) c.in-Asks.is c.in_ok-v.ensures.goes)
    (record { interactive = refl; loads = refl; callers = refl; depth = refl }) c.requires.can.0 c.requires.can.1

pub returns-in-Ends-clause-steps : goal.returns-in-Ends-clause-steps
returns-in-Ends-clause-steps g c =
    command_ends c.args.caller c.args.job.now (g.W.SwapFile.content c.args.swap.now) c.args.live.now c.next.new.live c.args.stack.now.items c.next.new.stack.items c.args.asker.now (record c.args.asker.now { turn = c.next.new.turn }) c.in-Ends.v
    (subst (λ r. Goes r c.args.job.now c.args.live.now c.args.asker.now.turn c.args.stack.now.items c.next.new.job c.next.new.live c.next.new.turn c.next.new.stack.items) c.in-Ends.is c.in_ok-v.ensures.goes)
    (record { interactive = refl; loads = refl; callers = refl; depth = refl }) c.in_ok-v.ensures.variables c.in_ok-v.ensures.fit (subst (IsStepThere c.next.new.live.cells) c.in-Ends.is c.in_ok-v.ensures.there)

pub returns-in_ok-reached-in-Asks-clause-steps : goal.returns-in_ok-reached-in-Asks-clause-steps
returns-in_ok-reached-in-Asks-clause-steps g c =
    let fit : IsFit c.reach_asked.new.live c.next.new.stack.items =
    record { closed = c.in_ok-reached-in-Asks.ensures.closed; there = subst (λ cells. All (IsThere cells) c.next.new.stack.items) (sym c.in_ok-reached-in-Asks.ensures.cells) c.in_ok-v.ensures.fit.there } in
    command_asks c.args.caller c.args.job.now c.next.new.job (g.W.SwapFile.content c.args.swap.now) c.args.live.now c.next.new.live c.args.stack.now.items c.next.new.stack.items c.args.asker.now (record c.args.asker.now { turn = c.next.new.turn }) c.in-Asks.question
    (subst (λ r. Goes r c.args.job.now c.args.live.now c.args.asker.now.turn c.args.stack.now.items c.next.new.job c.next.new.live c.next.new.turn c.next.new.stack.items) c.in-Asks.is c.in_ok-v.ensures.goes)
    (record { interactive = refl; loads = refl; callers = refl; depth = refl }) (g.W.SwapFile.content c.reach_asked.new.swap) c.reach_asked.new.live c.in_ok-reached-in-Asks.reached c.in_ok-reached-in-Asks.ensures.found c.in_ok-reached-in-Asks.ensures.outputs
    (home_later c.args.live.now.objects c.next.new.live.objects c.reach_asked.new.live.objects c.in_ok-v.ensures.variables c.in_ok-reached-in-Asks.ensures.home) fit c.in_ok-v.ensures.left c.in_ok-reached-in-Asks.ensures.there
