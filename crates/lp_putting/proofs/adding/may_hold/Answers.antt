use Rattle.std.proofs.Common.{◌∙◌, ◌&&◌, ap, sym}
use Rattle.lp_putting.proofs.Planned.{dead_holds, holds_same, stiff_holds}
use Rattle.lp_putting.proofs.adding.may_hold.Goals as goal

pub returns-then-not-is_live : goal.returns-then-not-is_live
returns-then-not-is_live c = λ g turn b s h. dead_holds g c.args.live.now turn b s c.args.p c.args.this h (sym c.is_live.ensures ∙ c.if-not-is_live.true)

pub returns-then-not-is_living : goal.returns-then-not-is_living
returns-then-not-is_living c = λ g turn b s h. stiff_holds g c.args.live.now turn b s c.args.p c.args.this h (sym c.is_live.ensures ∙ c.if-not-is_live.false) (sym c.is_living.ensures ∙ c.if-not-is_living.true)

pub returns : goal.returns
returns c = λ g turn b s h.
    ap (λ v. v && c.is_in_reach.result) (sym c.if-not-is_living.false)
    ∙ holds_same g c.args.live.now turn b s c.args.p c.args.this c.is_living.result c.is_in_reach.result h (sym c.is_live.ensures ∙ c.if-not-is_live.false) c.is_living.ensures c.is_in_reach.ensures
