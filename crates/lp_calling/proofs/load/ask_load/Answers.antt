use Rattle.std.proofs.Common.{subst, sym}
use Rattle.lp_calling.specs.declared.job.Question.TheVariants as questions
use Rattle.lp_calling.specs.declared.job.Stage.TheVariants as stages
use Rattle.lp_calling.specs.declared.job.Step.TheVariants as steps
use Rattle.lp_calling.specs.Going.{StageGoes}
use Rattle.lp_calling.proofs.Loading.{load_asks, target_asks}
use Rattle.lp_calling.proofs.load.ask_load.Goals as goal

pub returns-clause-target : goal.returns-clause-target
returns-clause-target c = λ e fun low live turn stack budget le.
    subst (λ m. StageGoes (steps.Asks (questions.Load m) 0) e (stages.Target c.args.name.now fun) low live turn stack budget live turn stack budget) (sym c.in_ok-copy.ensures)
    (target_asks e c.args.name.now fun low stack live turn budget le)

pub returns-clause-load : goal.returns-clause-load
returns-clause-load c = λ e low live turn stack budget le.
    subst (λ m. StageGoes (steps.Asks (questions.Load m) 0) e (stages.Load c.args.name.now) low live turn stack budget live turn stack budget) (sym c.in_ok-copy.ensures)
    (load_asks e c.args.name.now low stack live turn budget le)
