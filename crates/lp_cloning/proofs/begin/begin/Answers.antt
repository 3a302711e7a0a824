use Rattle.lp_cloning.proofs.Arguing.{refused_on, want_refused}
use Rattle.lp_cloning.proofs.Telling.{err_want, tells_either, tells_none}
use Rattle.std.proofs.Common.{◌≡◌, ◌-◌, length, nat_lt, rules}
use Rattle.lp_efuns.proofs.Called.{paid_is, unpaid_is}
use Rattle.lp_targets.proofs.Lookups.{if_ok}
use Rattle.lp_cloning.proofs.Arguing.{act_begins, bad_begins, spent_begins}
use Rattle.lp_cloning.proofs.begin.begin.Goals as goal

pub returns-then-not-pay_wide-clause-begins : goal.returns-then-not-pay_wide-clause-begins
returns-then-not-pay_wide-clause-begins g c =
    let a = c.args in
    let before = c.price_above-before.result in
    let paid = c.pay_wide.new.budget in
    let low : c.len.result - a.args ≡ length a.stack.now.items - a.args = search rules in
    let q = unpaid_is (nat_lt a.budget.now before) c.pay_wide.result before a.budget.now paid c.pay_wide.ensures c.if-not-pay_wide.true in
    spent_begins a.live.now a.stack.now.items (c.len.result - a.args) a.args a.budget.now c.requires.fit.there c.requires.args low c.spent.result (g.W.SwapFile.content a.swap.now) before paid c.cut.new.stack.items c.spent.ensures q.0 q.1 c.price_above-before.ensures c.cut.ensures.items

pub returns-in_ok-refused-in-Some-clause-begins : goal.returns-in_ok-refused-in-Some-clause-begins
returns-in_ok-refused-in-Some-clause-begins g c =
    let a = c.args in
    let before = c.price_above-before.result in
    let paid = c.pay_wide.new.budget in
    let low : c.len.result - a.args ≡ length a.stack.now.items - a.args = search rules in
    let q = paid_is (nat_lt a.budget.now before) c.pay_wide.result before a.budget.now paid c.pay_wide.ensures c.if-not-pay_wide.false in
    bad_begins a.live.now a.stack.now.items (c.len.result - a.args) a.args a.budget.now c.requires.fit.there c.requires.args low c.in_ok-refused-in-Some.field-0 (g.W.SwapFile.content a.swap.now) before paid c.in-Some.number c.cut-in-Some.new.stack.items c.in_ok-refused-in-Some.ensures q.0 q.1 c.price_above-before.ensures c.in-Some.ensures c.cut-in-Some.ensures.items

pub returns-in-None-clause-begins : goal.returns-in-None-clause-begins
returns-in-None-clause-begins g c =
    let a = c.args in
    let before = c.price_above-before.result in
    let paid = c.pay_wide.new.budget in
    let low : c.len.result - a.args ≡ length a.stack.now.items - a.args = search rules in
    let q = paid_is (nat_lt a.budget.now before) c.pay_wide.result before a.budget.now paid c.pay_wide.ensures c.if-not-pay_wide.false in
    if_ok c.act.result (λ r k.
    act_begins a.live.now a.stack.now.items (c.len.result - a.args) a.args a.budget.now c.requires.fit.there c.requires.args low r (g.W.SwapFile.content a.swap.now) before paid c.act.new.live c.act.new.stack.items q.0 q.1 c.price_above-before.ensures c.in-None.ensures k) c.act.ensures.acts

pub returns-then-not-pay_wide-clause-tells : goal.returns-then-not-pay_wide-clause-tells
returns-then-not-pay_wide-clause-tells g c = tells_none (g.W.SwapFile.content c.args.swap.now) (g.W.SwapFile.last c.args.swap.now) (g.W.SwapFile.read_faults c.args.swap.now) (g.W.SwapFile.write_faults c.args.swap.now) (g.W.SwapFile.is_truthful c.args.swap.now) (g.W.SwapFile.is_honest c.args.swap.now) c.args.live.now

pub returns-in_ok-refused-in-Some-clause-tells : goal.returns-in_ok-refused-in-Some-clause-tells
returns-in_ok-refused-in-Some-clause-tells g c = tells_none (g.W.SwapFile.content c.args.swap.now) (g.W.SwapFile.last c.args.swap.now) (g.W.SwapFile.read_faults c.args.swap.now) (g.W.SwapFile.write_faults c.args.swap.now) (g.W.SwapFile.is_truthful c.args.swap.now) (g.W.SwapFile.is_honest c.args.swap.now) c.args.live.now

pub returns-in_err-refused-in-Some-clause-tells : goal.returns-in_err-refused-in-Some-clause-tells
returns-in_err-refused-in-Some-clause-tells g c = tells_either (g.W.SwapFile.content c.args.swap.now) (g.W.SwapFile.last c.args.swap.now) (g.W.SwapFile.read_faults c.args.swap.now) (g.W.SwapFile.write_faults c.args.swap.now) (g.W.SwapFile.is_truthful c.args.swap.now) (g.W.SwapFile.is_honest c.args.swap.now) c.args.live.now c.from_residual.result (err_want c.from_residual.result c.from_residual.ensures.1)

pub returns-in_err-refused-in-Some-clause-refused : goal.returns-in_err-refused-in-Some-clause-refused
returns-in_err-refused-in-Some-clause-refused g c = want_refused (g.W.SwapFile.content c.args.swap.now) c.args.live.now c.args.stack.now.items c.args.args c.from_residual.result (err_want c.from_residual.result c.from_residual.ensures.1)

pub returns-in-None-clause-refused : goal.returns-in-None-clause-refused
returns-in-None-clause-refused g c =
    let a = c.args in
    let low : c.len.result - a.args ≡ length a.stack.now.items - a.args = search rules in
    refused_on a.live.now a.stack.now.items (c.len.result - a.args) a.args a.budget.now c.requires.fit.there c.requires.args low (g.W.SwapFile.content a.swap.now) c.act.result c.act.ensures.refused
