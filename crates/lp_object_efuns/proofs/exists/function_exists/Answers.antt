use Rattle.std.proofs.Common.{nat_lt, subst, sym}
use Rattle.lp_instr.specs.declared.efun.Efun.TheVariants as efuns
use Rattle.lp_targets.specs.Callees.{IsWorldOf}
use Rattle.lp_efuns.proofs.Called.{acted_at, bad_call, paid_is, spent_call, unpaid_is}
use Rattle.lp_object_efuns.proofs.exists.function_exists.Goals as goal

pub returns-then-not-is_paid-clause-calls : goal.returns-then-not-is_paid-clause-calls
returns-then-not-is_paid-clause-calls g c = λ t k turn by d s q sc h w.
    let a = c.args in
    let before = c.price_before-before.result in
    let p = unpaid_is (nat_lt a.budget.now before) c.pay_wide-is_paid.result before a.budget.now c.pay_wide-is_paid.new.budget c.pay_wide-is_paid.ensures c.if-not-is_paid.true in
    spent_call efuns.FunctionExists a.caller.now a.args.now a.live.now turn a.budget.now tt c.requires.there before c.pay_wide-is_paid.new.budget p.0 p.1 c.price_before-before.ensures k by d s sc h

pub returns-in-Ok-clause-calls : goal.returns-in-Ok-clause-calls
returns-in-Ok-clause-calls g c = λ t k turn by d s q sc h w.
    let a = c.args in
    let before = c.price_before-before.result in
    let p = paid_is (nat_lt a.budget.now before) c.pay_wide-is_paid.result before a.budget.now c.pay_wide-is_paid.new.budget c.pay_wide-is_paid.ensures c.if-not-is_paid.false in
    bad_call efuns.FunctionExists a.caller.now a.args.now a.live.now turn a.budget.now tt c.requires.there before c.pay_wide-is_paid.new.budget c.in-Some.number c.in-Ok.a p.0 p.1 c.price_before-before.ensures c.in-Some.ensures c.in-Ok.ensures k by d s sc h

pub returns-in-Ok-did-clause-calls : goal.returns-in-Ok-did-clause-calls
returns-in-Ok-did-clause-calls g c = λ t k turn by d s q sc h w.
    let a = c.args in
    let before = c.price_before-before.result in
    let p = paid_is (nat_lt a.budget.now before) c.pay_wide-is_paid.result before a.budget.now c.pay_wide-is_paid.new.budget c.pay_wide-is_paid.ensures c.if-not-is_paid.false in
    acted_at efuns.FunctionExists a.caller.now a.args.now a.live.now turn a.budget.now tt c.requires.there before c.pay_wide-is_paid.new.budget c.finish.new.budget c.in-Ok-did.d c.finish.result c.did.new.live turn
    p.0 p.1 c.price_before-before.ensures c.in-None.ensures c.in-Ok-did.ensures.there c.finish.ensures.finishes k by d s h
    (λ u e at. c.in-Ok-did.ensures.does t k turn c.pay_wide-is_paid.new.budget d u q sc at
    (subst (λ x. IsWorldOf (g.W.SwapFile.content a.swap.now) k.programs a.live.now x) (sym e) w))
