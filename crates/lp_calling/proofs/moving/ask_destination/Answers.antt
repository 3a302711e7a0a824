use Rattle.std.proofs.Common.{subst, sym}
use Rattle.lp_calling.specs.declared.job.Question.TheVariants as questions
use Rattle.lp_calling.specs.declared.job.Stage.TheVariants as stages
use Rattle.lp_calling.specs.declared.job.Step.TheVariants as steps
use Rattle.lp_calling.specs.declared.moving.Moving.TheVariants as moves
use Rattle.lp_calling.specs.Going.{StageGoes}
use Rattle.lp_calling.proofs.Moves.{destination_asks}
use Rattle.lp_calling.proofs.moving.ask_destination.Goals as goal

pub returns-clause-goes : goal.returns-clause-goes
returns-clause-goes c = λ e low live turn stack budget le.
    subst (λ m. StageGoes (steps.Asks (questions.Load m) 0) e (stages.Move (moves.Destination c.args.name.now)) low live turn stack budget live turn stack budget) (sym c.in_ok-copy.ensures)
    (destination_asks e c.args.name.now low stack live turn budget le)
