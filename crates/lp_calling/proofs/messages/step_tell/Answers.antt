use Rattle.std.proofs.Common.{◌∙◌, sym}
use Rattle.lp_calling.specs.declared.job.Stage.TheVariants as stages
use Rattle.lp_calling.proofs.Telling.{dead_told, ends_as}
use Rattle.lp_calling.proofs.messages.step_tell.Goals as goal

pub returns-then-not-is_live-clause-goes : goal.returns-then-not-is_live-clause-goes
returns-then-not-is_live-clause-goes c = λ turn.
    let a = c.args in
    ends_as c.end_zero.result a.efun (stages.Tell a.o a.text.now) a.low a.live.now a.live.now turn a.stack.now.items c.end_zero.new.stack.items a.budget.now c.end_zero.new.budget (c.end_zero.ensures.goes turn)
    (dead_told a.efun a.o a.text.now a.live.now turn a.budget.now (sym c.is_live.ensures ∙ c.if-not-is_live.true))

pub tell_live-requires-clause-live : goal.tell_live-requires-clause-live
tell_live-requires-clause-live c = sym c.is_live.ensures ∙ c.if-not-is_live.false

pub returns-then-not-is_live-clause-asked : goal.returns-then-not-is_live-clause-asked
returns-then-not-is_live-clause-asked c = c.end_zero.ensures.asked _
