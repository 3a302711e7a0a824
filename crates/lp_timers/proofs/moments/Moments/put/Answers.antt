use Rattle.std.proofs.Common.{◌≡◌, true, false, ap, sym, ◌∙◌}
use Rattle.lp_timers.specs.Lines.{has_line}
use Rattle.lp_timers.proofs.MarkLemmas.{has_is, has_number, set_is_next}
use Rattle.lp_timers.proofs.moments.Moments.put.Goals as goal

pub returns-in-Some-clause-ok : goal.returns-in-Some-clause-ok
returns-in-Some-clause-ok c =
    let has : has_line c.args.self.now.lines c.args.kind c.args.ob ≡ true = sym (has_is c.args.kind c.args.ob c.args.self.now.lines) ∙ ap has_number (sym c.in-Some.ensures.number) in
    rw has (c.set_number.ensures ∙ ap (λ l. record { next = c.args.self.now.next; lines = l }) (set_is_next c.args.kind c.args.ob c.in-Some.number c.args.at c.args.self.now.lines c.in-Some.ensures.alone))

pub returns-in-None-clause-ok : goal.returns-in-None-clause-ok
returns-in-None-clause-ok c =
    let has : has_line c.args.self.now.lines c.args.kind c.args.ob ≡ false = sym (has_is c.args.kind c.args.ob c.args.self.now.lines) ∙ ap has_number (sym c.in-None.ensures.number) in
    rw has c.add.ensures.ok
