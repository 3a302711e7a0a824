use Rattle.std.proofs.Common.{◌∙◌, None, Some, ap, sym}
use Rattle.std.proofs.lemmas.Result.{IfOk-weaker}
use Rattle.lp_meaning.specs.EventTurns.{admitted, free_object}
use Rattle.lp_turn.proofs.Kept.{begins_as}
use Rattle.lp_turn.proofs.connecting.admit.Goals as goal

pub returns-in-Some-clause-goes : goal.returns-in-Some-clause-goes
returns-in-Some-clause-goes c =
    IfOk-weaker c.log_on.result _ _
    (λ r b. begins_as (admitted c.args.number (Some c.in-Some.o)) (λ s. admitted c.args.number (free_object s.world c.args.v.now) s) c.args.live.now c.log_on.new.live r
    (λ g programs s h. ap (λ q. admitted c.args.number q s) (sym (c.free_object.ensures.free g programs s.world h) ∙ c.in-Some.is)) b) c.log_on.ensures.begins

pub returns-in-None-clause-goes : goal.returns-in-None-clause-goes
returns-in-None-clause-goes c =
    IfOk-weaker c.refuse.result _ _
    (λ r b. begins_as (admitted c.args.number None) (λ s. admitted c.args.number (free_object s.world c.args.v.now) s) c.args.live.now c.refuse.new.live r
    (λ g programs s h. ap (λ q. admitted c.args.number q s) (sym (c.free_object.ensures.free g programs s.world h) ∙ c.in-None.is)) b) c.refuse.ensures.begins
