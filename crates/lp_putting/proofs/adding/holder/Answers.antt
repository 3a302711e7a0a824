use Rattle.std.proofs.Common.{◌∙◌, ap, sym, None, Some}
use Rattle.lp_meaning.specs.WorldEfuns.{holder_for}
use Rattle.lp_putting.proofs.Planned.{chosen_first, chosen_second, may_hold}
use Rattle.lp_putting.proofs.adding.holder.Goals as goal

pub returns-then-may_hold : goal.returns-then-may_hold
returns-then-may_hold c = λ g turn b s h. chosen_first c.may_hold.result (may_hold s.world c.in-Some.p c.args.this) (Some c.in-Some.p) None (c.may_hold.ensures g turn b s h) c.if-may_hold.true ∙ ap (holder_for s.world c.args.this) (sym c.in-Some.is)

pub returns-else-may_hold : goal.returns-else-may_hold
returns-else-may_hold c = λ g turn b s h. chosen_second c.may_hold.result (may_hold s.world c.in-Some.p c.args.this) (Some c.in-Some.p) None (c.may_hold.ensures g turn b s h) c.if-may_hold.false ∙ ap (holder_for s.world c.args.this) (sym c.in-Some.is)
