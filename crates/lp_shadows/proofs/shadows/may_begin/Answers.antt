use Rattle.std.proofs.Common.{◌∙◌, ◌&&◌, ap, sym}
use Rattle.lp_shadows.proofs.Shadowed.{begin_same, both_live, dead_begins, impossible}
use Rattle.lp_shadows.proofs.shadows.may_begin.Goals as goal

pub returns-then-not-are_live-clause-value : goal.returns-then-not-are_live-clause-value
returns-then-not-are_live-clause-value c = λ told programs w h. (dead_begins c.args.live.now c.args.this c.args.victim c.are_live.result c.are_live.ensures c.if-not-are_live.true told programs w h).0

pub returns-then-not-are_live-clause-live : goal.returns-then-not-are_live-clause-live
returns-then-not-are_live-clause-live c = λ e. impossible e

pub returns-clause-value : goal.returns-clause-value
returns-clause-value c = λ told programs w h.
    ap (λ b. b && c.may_shadow.result) (sym c.if-not-are_live.false)
    ∙ begin_same told programs c.args.live.now w c.args.this c.args.victim c.are_live.result c.may_shadow.result c.are_live.ensures c.may_shadow.ensures h

pub returns-clause-live : goal.returns-clause-live
returns-clause-live c = λ e. both_live c.are_live.result _ _ c.are_live.ensures c.if-not-are_live.false
