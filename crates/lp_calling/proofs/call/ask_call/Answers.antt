use Rattle.std.proofs.Common.{subst, sym}
use Rattle.lp_calling.specs.declared.job.Question.TheVariants as questions
use Rattle.lp_calling.specs.declared.job.Stage.TheVariants as stages
use Rattle.lp_calling.specs.declared.job.Step.TheVariants as steps
use Rattle.lp_calling.specs.Going.{StageGoes}
use Rattle.lp_calling.proofs.Calling.{call_asks}
use Rattle.lp_calling.proofs.call.ask_call.Goals as goal

pub returns-clause-goes : goal.returns-clause-goes
returns-clause-goes c = λ live turn budget.
    subst (λ m. StageGoes (steps.Asks (questions.Other c.args.o m) c.count_behind-n.result) c.args.efun (stages.Call c.args.o c.args.name.now) c.args.low live turn c.args.stack.now.items budget live turn c.args.stack.now.items budget) (sym c.in_ok-copy.ensures)
    (call_asks c.args.efun c.args.o c.args.name.now c.args.low c.count_behind-n.result c.args.stack.now.items live turn budget c.count_behind-n.ensures)
