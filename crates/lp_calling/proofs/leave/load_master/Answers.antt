use Rattle.std.proofs.Common.{◌∙◌, subst, sym}
use Rattle.lp_calling.specs.declared.job.Question.TheVariants as questions
use Rattle.lp_calling.specs.declared.job.Stage.TheVariants as stages
use Rattle.lp_calling.specs.declared.job.Step.TheVariants as steps
use Rattle.lp_calling.specs.Going.{StageGoes}
use Rattle.lp_calling.proofs.Leaving.{chars-master, master_loads}
use Rattle.lp_calling.proofs.leave.load_master.Goals as goal

pub returns-clause-goes : goal.returns-clause-goes
returns-clause-goes c = λ e low live turn stack budget le.
    subst (λ m. StageGoes (steps.Asks (questions.Load m) 0) e (stages.MasterLoad c.args.wish.now) low live turn stack budget live turn stack budget) (sym (c.in_ok-name.ensures ∙ chars-master))
    (master_loads e c.args.wish.now low stack live turn budget le c.requires)
