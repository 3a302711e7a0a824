use Rattle.std.proofs.Common.{nat_lt, subst, sym}
use Rattle.lp_targets.specs.Callees.{IsWorldOf}
use Rattle.lp_efuns.specs.Turns.{At}
use Rattle.lp_efuns.specs.declared.answer.Answer.TheVariants as answers
use Rattle.lp_efuns.proofs.Called.{acted_at, bad_call, paid_is, spent_call, unpaid_is}
use Rattle.lp_object_efuns.proofs.Over.{asks_nothing, called_over, settled_over}
use Rattle.lp_object_efuns.proofs.called.call_with_program.Goals as goal

pub returns-then-not-is_paid-clause-calls : goal.returns-then-not-is_paid-clause-calls
returns-then-not-is_paid-clause-calls g c = λ t.
    let a = c.args in
    let before = c.price_before-before.result in
    let p = unpaid_is (nat_lt a.budget.now before) c.pay_wide-is_paid.result before a.budget.now c.pay_wide-is_paid.new.budget c.pay_wide-is_paid.ensures c.if-not-is_paid.true in
    called_over a.efun a.caller.now a.args.now (g.W.SwapFile.content a.swap.now) a.live.now a.live.now a.turn.now a.budget.now c.pay_wide-is_paid.new.budget answers.Spent c.requires.with_program
    (spent_call a.efun a.caller.now a.args.now a.live.now a.turn.now a.budget.now (asks_nothing a.efun c.requires.with_program) c.requires.there before c.pay_wide-is_paid.new.budget p.0 p.1 c.price_before-before.ensures)

pub returns-in-Ok-clause-calls : goal.returns-in-Ok-clause-calls
returns-in-Ok-clause-calls g c = λ t.
    let a = c.args in
    let before = c.price_before-before.result in
    let p = paid_is (nat_lt a.budget.now before) c.pay_wide-is_paid.result before a.budget.now c.pay_wide-is_paid.new.budget c.pay_wide-is_paid.ensures c.if-not-is_paid.false in
    called_over a.efun a.caller.now a.args.now (g.W.SwapFile.content a.swap.now) a.live.now a.live.now a.turn.now a.budget.now c.pay_wide-is_paid.new.budget c.in-Ok.a c.requires.with_program
    (bad_call a.efun a.caller.now a.args.now a.live.now a.turn.now a.budget.now (asks_nothing a.efun c.requires.with_program) c.requires.there before c.pay_wide-is_paid.new.budget c.in-Some.number c.in-Ok.a p.0 p.1 c.price_before-before.ensures c.in-Some.ensures c.in-Ok.ensures)

pub returns-in-Ok-did-clause-calls : goal.returns-in-Ok-did-clause-calls
returns-in-Ok-did-clause-calls g c = λ t k by d s q sc h w.
    let a = c.args in
    let before = c.price_before-before.result in
    let p = paid_is (nat_lt a.budget.now before) c.pay_wide-is_paid.result before a.budget.now c.pay_wide-is_paid.new.budget c.pay_wide-is_paid.ensures c.if-not-is_paid.false in
    settled_over a.efun by d a.args.now s (At k c.did.new.live a.turn.now c.finish.new.budget) c.finish.result c.requires.with_program
    (acted_at a.efun a.caller.now a.args.now a.live.now a.turn.now a.budget.now (asks_nothing a.efun c.requires.with_program) c.requires.there before c.pay_wide-is_paid.new.budget c.finish.new.budget c.in-Ok-did.d c.finish.result c.did.new.live a.turn.now
    p.0 p.1 c.price_before-before.ensures c.in-None.ensures c.in-Ok-did.ensures.there c.finish.ensures.finishes k by d s h
    (λ u e at. c.in-Ok-did.ensures.does t k c.pay_wide-is_paid.new.budget d u q sc at (subst (λ x. IsWorldOf (g.W.SwapFile.content a.swap.now) k.programs a.live.now x) (sym e) w)))
