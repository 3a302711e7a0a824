use Rattle.std.proofs.Common.{subst, sym, true}
use Rattle.lp_shadowing.specs.Shadowing.{IsJobFor}
use Rattle.lp_shadowing.proofs.Begun.{asks_for, nothing_for}
use Rattle.lp_calling.specs.declared.job.Begun.TheVariants as begun
use Rattle.lp_shadowing.proofs.shadowing.shadow_begun.Goals as goal

pub returns-then-barred-clause-begun : goal.returns-then-barred-clause-begun
returns-then-barred-clause-begun c =
    let a = c.args in
    subst (λ b. IsJobFor c.nothing.result a.live.now a.low a.this a.o b) (sym c.if-barred.true)
    (subst (λ r. IsJobFor r a.live.now a.low a.this a.o true) (sym c.nothing.ensures.value) (nothing_for a.live.now a.low a.this a.o))

pub returns-clause-begun : goal.returns-clause-begun
returns-clause-begun c =
    let a = c.args in
    let k = c.ask_to_shadow.ensures in
    subst (λ b. IsJobFor (begun.Runs c.ask_to_shadow.result) a.live.now a.low a.this a.o b) (sym c.if-barred.false) (asks_for a.live.now a.low a.this a.o c.ask_to_shadow.result k.efun k.low k.asks k.on)
