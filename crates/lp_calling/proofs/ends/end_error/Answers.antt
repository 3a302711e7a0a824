use Rattle.std.proofs.Common.{subst, sym}
use Rattle.lp_efuns.specs.declared.answer.Answer.TheVariants as answers
use Rattle.lp_calling.specs.declared.job.Stage.TheVariants as stages
use Rattle.lp_calling.specs.declared.job.Step.TheVariants as steps
use Rattle.lp_calling.specs.Going.{StageGoes}
use Rattle.lp_calling.proofs.Ending.{error_goes}
use Rattle.lp_calling.proofs.ends.end_error.Goals as goal

pub returns-clause-goes : goal.returns-clause-goes
returns-clause-goes c = λ efun live turn budget.
    subst (λ x. StageGoes (steps.Ends (answers.Error x)) efun (stages.Error c.args.kind) c.args.low live turn c.args.stack.now.items budget live turn c.cut.new.stack.items budget) (sym c.in_ok-error.ensures)
    (error_goes efun c.args.kind c.args.low c.args.stack.now.items c.cut.new.stack.items live turn budget c.cut.ensures.items)
