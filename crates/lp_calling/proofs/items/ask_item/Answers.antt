use Rattle.std.proofs.Common.{◌+◌, ◌-◌, ap, subst, sym}
use Rattle.lp_calling.specs.declared.job.Question.TheVariants as questions
use Rattle.lp_calling.specs.declared.job.Stage.TheVariants as stages
use Rattle.lp_calling.specs.declared.job.Step.TheVariants as steps
use Rattle.lp_calling.specs.Going.{StageGoes}
use Rattle.lp_efuns.proofs.Enabled.{row_there}
use Rattle.lp_calling.proofs.Rounds.{item_asks, question_there}
use Rattle.lp_calling.proofs.items.ask_item.Goals as goal

pub returns-clause-goes : goal.returns-clause-goes
returns-clause-goes c = λ efun live turn budget l.
    let a = c.args in
    subst (λ m. StageGoes (steps.Asks (questions.Other a.round.now.object m) (1 + c.saturating_sub.result)) efun (stages.Items a.round.now) a.low live turn a.stack.now.items budget live turn c.lay_question.new.stack.items budget) (sym c.in_ok-copy.ensures)
    (item_asks efun a.round.now a.low (1 + c.saturating_sub.result) a.stack.now.items c.lay_question.new.stack.items live turn budget c.requires.room c.requires.left l (ap (λ k. 1 + k) c.saturating_sub.ensures) c.in_ok-lay_question.ensures)

pub returns-clause-fit : goal.returns-clause-fit
returns-clause-fit c = λ l h.
    question_there l c.args.stack.now.items c.lay_question.new.stack.items (c.args.low + (c.args.round.now.arguments + c.args.round.now.done)) 1 (c.args.low + 3) (c.args.round.now.arguments - 3) c.in_ok-lay_question.ensures h

pub returns-clause-asked : goal.returns-clause-asked
returns-clause-asked c = λ objects l. row_there objects c.args.round.now.object l
