use Rattle.std.proofs.Common.{◌∙◌, sym}
use Rattle.std.proofs.lemmas.Result.{IfOk-weaker}
use Rattle.lp_turn.proofs.Watched.{answered_other, answered_zero}
use Rattle.lp_turn.proofs.watches.clean_up_after.Goals as goal

pub returns-then-is_zero-clause-goes : goal.returns-then-is_zero-clause-goes
returns-then-is_zero-clause-goes c =
    IfOk-weaker c.clean_up_without.result _ _
    (λ r b. answered_zero c.args.live.now c.clean_up_without.new.live c.args.o c.args.v.now c.args.due r (sym c.is_zero.ensures ∙ c.if-is_zero.true) b) c.clean_up_without.ensures.begins

pub returns-clause-goes : goal.returns-clause-goes
returns-clause-goes c =
    IfOk-weaker c.clean_up_next.result _ _ (λ r b. answered_other c.args.live.now c.clean_up_next.new.live c.args.o c.args.v.now c.args.due r (sym c.is_zero.ensures ∙ c.if-is_zero.false) b) c.clean_up_next.ensures.goes
