use Rattle.std.proofs.Common.{◌∙◌, ap, sym, None, Some}
use Rattle.lp_meaning.specs.WorldEfuns.{is_awaited, unless_awaited}
use Rattle.lp_putting.proofs.Planned.{awaited_same, chosen_first, chosen_second}
use Rattle.lp_putting.proofs.awaiting.unless_awaited.Goals as goal

pub returns-then-is_awaited : goal.returns-then-is_awaited
returns-then-is_awaited c = λ g turn b s h.
    chosen_first c.is_awaited.result (is_awaited s.world c.in-Some.k) None (Some c.in-Some.k) (c.is_awaited.ensures ∙ awaited_same g c.args.live.now turn b s c.in-Some.k h) c.if-is_awaited.true ∙ ap (unless_awaited s.world) (sym c.in-Some.is)

pub returns-else-is_awaited : goal.returns-else-is_awaited
returns-else-is_awaited c = λ g turn b s h.
    chosen_second c.is_awaited.result (is_awaited s.world c.in-Some.k) None (Some c.in-Some.k) (c.is_awaited.ensures ∙ awaited_same g c.args.live.now turn b s c.in-Some.k h) c.if-is_awaited.false ∙ ap (unless_awaited s.world) (sym c.in-Some.is)
