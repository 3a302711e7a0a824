use Rattle.std.proofs.Common.{Some, sym, subst}
use Rattle.lp_vm.specs.declared.request.Request.TheVariants as requests
use Rattle.lp_vm.specs.Answering.{Begins}
use Rattle.lp_vm.specs.Beginning.{HasEntered, IsBegun}
use Rattle.lp_vm.proofs.Startings.{enough, memory_there, runs_answers, stopped_answers}
use Rattle.lp_vm.proofs.entering.start_function.Goals as goal

pub left_at-left-requires : goal.left_at-left-requires
left_at-left-requires c = enough c.args.live.now c.args.stack.now.items c.args.asker.now c.args.budget.now c.args.args (requests.Function (Some c.args.reached)) c.requires.can

pub begin-requires-clause-arguments : goal.begin-requires-clause-arguments
begin-requires-clause-arguments c = enough c.args.live.now c.args.stack.now.items c.args.asker.now c.args.budget.now c.args.args (requests.Function (Some c.args.reached)) c.requires.can

pub begin-requires-clause-there : goal.begin-requires-clause-there
begin-requires-clause-there c = memory_there c.args.live.now c.args.stack.now.items c.args.asker.now c.args.budget.now c.args.args c.args.reached c.requires.can

pub returns-in-Stopped-clause-starts : goal.returns-in-Stopped-clause-starts
returns-in-Stopped-clause-starts c =
    stopped_answers c.args.live.now c.begin.new.live c.args.stack.now.items c.begin.new.stack.items c.args.asker.now c.begin.new.asker c.args.reached c.args.args c.args.budget.now c.begin.new.budget c.in-Stopped.stop
    (subst (λ r. Begins r c.args.reached.callee c.args.reached.code c.args.reached.caller c.args.args c.args.live.now c.args.stack.now.items c.args.asker.now c.args.budget.now c.begin.new.live c.begin.new.stack.items c.begin.new.asker c.begin.new.budget) c.in-Stopped.is c.in_ok-stop.ensures.begins)
    (subst (λ r. IsBegun r c.args.reached.caller c.begin.new.live c.begin.new.stack.items c.args.asker.now c.args.budget.now c.begin.new.asker c.begin.new.budget) c.in-Stopped.is c.in_ok-stop.ensures.begun) c.in_ok-stop.ensures.home

pub returns-in-Runs-clause-starts : goal.returns-in-Runs-clause-starts
returns-in-Runs-clause-starts c =
    subst (λ left. HasEntered (Some c.args.reached) c.args.args c.args.live.now c.args.stack.now.items c.args.asker.now c.args.budget.now c.begin.new.live c.begin.new.stack.items c.in-Runs.frame left c.begin.new.asker c.begin.new.budget) (sym c.left_at-left.ensures)
    (runs_answers c.args.live.now c.begin.new.live c.args.stack.now.items c.begin.new.stack.items c.args.asker.now c.begin.new.asker c.args.reached c.args.args c.args.budget.now c.begin.new.budget c.in-Runs.frame
    (subst (λ r. Begins r c.args.reached.callee c.args.reached.code c.args.reached.caller c.args.args c.args.live.now c.args.stack.now.items c.args.asker.now c.args.budget.now c.begin.new.live c.begin.new.stack.items c.begin.new.asker c.begin.new.budget) c.in-Runs.is c.in_ok-stop.ensures.begins)
    (subst (λ r. IsBegun r c.args.reached.caller c.begin.new.live c.begin.new.stack.items c.args.asker.now c.args.budget.now c.begin.new.asker c.begin.new.budget) c.in-Runs.is c.in_ok-stop.ensures.begun) c.in_ok-stop.ensures.home
    (memory_there c.args.live.now c.args.stack.now.items c.args.asker.now c.args.budget.now c.args.args c.args.reached c.requires.can))
