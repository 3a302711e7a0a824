use Rattle.std.proofs.Common.{length, subst, sym}
use Rattle.std.proofs.lemmas.Result.{IfOk-weaker}
use Rattle.lp_calling.specs.Entering.{IsPoised}
use Rattle.lp_calling.specs.Going.{StageGoes}
use Rattle.lp_calling.specs.Jobs.{IsStageOn}
use Rattle.lp_calling.proofs.next.go.Goals as goal

pub returns-in-Value-clause-asked : goal.returns-in-Value-clause-asked
returns-in-Value-clause-asked c = c.end_value.ensures.asked _

pub returns-in-Zero-clause-asked : goal.returns-in-Zero-clause-asked
returns-in-Zero-clause-asked c = c.end_zero.ensures.asked _

pub load_master-requires : goal.load_master-requires
load_master-requires c = (subst (λ s. IsStageOn s c.args.low (length c.args.stack.now.items)) c.in-MasterLoad.is c.requires.on).1

pub ask_master-requires-clause-low : goal.ask_master-requires-clause-low
ask_master-requires-clause-low c = (subst (λ s. IsStageOn s c.args.low (length c.args.stack.now.items)) c.in-Master.is c.requires.on).0

pub ask_master-requires-clause-wish : goal.ask_master-requires-clause-wish
ask_master-requires-clause-wish c = (subst (λ s. IsStageOn s c.args.low (length c.args.stack.now.items)) c.in-Master.is c.requires.on).1

pub returns-in-MasterLoad-clause-goes : goal.returns-in-MasterLoad-clause-goes
returns-in-MasterLoad-clause-goes c =
    let a = c.args in
    IfOk-weaker c.load_master.result _ _
    (λ r k. subst (λ s. StageGoes r a.efun s a.low a.live.now a.turn.now a.stack.now.items a.budget.now a.live.now a.turn.now a.stack.now.items a.budget.now) (sym c.in-MasterLoad.is)
    (k a.efun a.low a.live.now a.turn.now a.stack.now.items a.budget.now (subst (λ s. IsStageOn s a.low (length a.stack.now.items)) c.in-MasterLoad.is c.requires.on).0)) c.load_master.ensures.goes

pub ask_moving-requires-clause-low : goal.ask_moving-requires-clause-low
ask_moving-requires-clause-low c = (subst (λ st. IsStageOn st c.args.low (length c.args.stack.now.items)) c.in-Move.is c.requires.on).0

pub ask_moving-requires-clause-poised : goal.ask_moving-requires-clause-poised
ask_moving-requires-clause-poised c = subst (λ st. IsPoised st c.args.live.now c.args.turn.now) c.in-Move.is c.requires.poised

pub returns-in-Move-clause-goes : goal.returns-in-Move-clause-goes
returns-in-Move-clause-goes c =
    let a = c.args in
    IfOk-weaker c.ask_moving.result _ _
    (λ r k. subst (λ st. StageGoes r a.efun st a.low a.live.now a.turn.now a.stack.now.items a.budget.now a.live.now c.ask_moving.new.turn a.stack.now.items a.budget.now) (sym c.in-Move.is)
    (k a.efun a.budget.now)) c.ask_moving.ensures.goes
