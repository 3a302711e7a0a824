use Rattle.std.proofs.Common.{◌≡◌, subst, sym, take}
use Rattle.std.proofs.lemmas.Result.{IfOk-weaker}
use Rattle.lp_values.specs.declared.error.ErrorKind.TheVariants.{BadTarget}
use Rattle.lp_values.specs.Errors.{plain}
use Rattle.lp_efuns.specs.declared.answer.Answer.TheVariants as answers
use Rattle.lp_calling.specs.declared.job.Stage.TheVariants as stages
use Rattle.lp_calling.specs.declared.job.Step.TheVariants as steps
use Rattle.lp_calling.specs.Going.{StageGoes}
use Rattle.lp_calling.proofs.Rounds.{item_ends}
use Rattle.lp_calling.proofs.items.end_dead.Goals as goal

pub returns-clause-goes : goal.returns-clause-goes
returns-clause-goes c =
    IfOk-weaker c.end_error.result (λ r. (r ≡ steps.Ends (answers.Error (plain BadTarget))) × (c.end_error.new.stack.items ≡ take c.args.low c.args.stack.now.items)) _
    (λ r k. λ efun turn budget. subst (λ r. StageGoes r efun (stages.Items c.args.round.now) c.args.low c.args.live.now turn c.args.stack.now.items budget c.args.live.now turn c.end_error.new.stack.items budget) (sym k.0)
    (item_ends efun c.args.round.now c.args.low c.args.stack.now.items c.end_error.new.stack.items c.args.live.now turn budget c.requires.room c.requires.left c.requires.dead k.1)) c.end_error.ensures.ends
