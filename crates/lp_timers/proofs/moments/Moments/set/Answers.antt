use Rattle.std.proofs.Common.{ap, sym, ◌∙◌}
use Rattle.lp_timers.proofs.MarkLemmas.{next_none, set_is_next}
use Rattle.lp_timers.proofs.moments.Moments.set.Goals as goal

pub returns-in-Some : goal.returns-in-Some
returns-in-Some c =
    c.set_number.ensures ∙ ap (λ l. record { next = c.args.self.now.next; lines = l }) (set_is_next c.args.kind c.args.ob c.in-Some.number c.args.at c.args.self.now.lines c.in-Some.ensures.alone)

pub returns-in-None : goal.returns-in-None
returns-in-None c = ap (λ l. record { next = c.args.self.now.next; lines = l }) (sym (next_none c.args.kind c.args.ob c.args.at c.args.self.now.lines c.in-None.ensures.alone))
