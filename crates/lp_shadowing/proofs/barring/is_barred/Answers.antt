use Rattle.std.proofs.lemmas.Result.{IfOk-weaker}
use Rattle.lp_shadowing.proofs.Barred.{barred_by, barred_so}
use Rattle.lp_shadowing.proofs.barring.is_barred.Goals as goal

pub returns-then-not-may_begin-clause-barred : goal.returns-then-not-may_begin-clause-barred
returns-then-not-may_begin-clause-barred g c = λ t.
    barred_so (g.W.SwapFile.content c.args.swap.now) c.args.live.now c.args.this c.args.o c.may_begin.result c.may_begin.ensures.value c.if-not-may_begin.true

pub returns-clause-barred : goal.returns-clause-barred
returns-clause-barred g c = λ t.
    IfOk-weaker c.look.result _ _
    (λ b k. barred_by (g.W.SwapFile.content c.args.swap.now) c.args.live.now c.args.this c.args.o c.may_begin.result b c.may_begin.ensures.value c.if-not-may_begin.false k) (c.look.ensures.forbidden t)
