use Rattle.std.proofs.Common.{◌≡◌, ap, sym, subst, ◌∙◌}
use Rattle.lp_timers.specs.Lines.{lines_set, AreBelow, AreRising}
use Rattle.lp_timers.specs.Marks.{number_of, AreApart}
use Rattle.lp_timers.specs.Tree.{lines_of}
use Rattle.lp_timers.proofs.MarkLemmas.{apart_set, below_set, number_set, rising_set}
use Rattle.lp_timers.proofs.moments.Moments.set_number.Goals as goal

pub invariant_of-self : goal.invariant_of-self
invariant_of-self c =
    let ls = lines_of c.self.inside.lines in
    let n = c.args.number in
    let at = c.args.at in
    let e : lines_of c.set.result ≡ lines_set ls n at = c.set.ensures.lines ∙ ap (λ t. lines_set (lines_of t) n at) c.replace-lines.ensures.value in
    record {
      knows = c.set.ensures.knows;
      rising = subst AreRising (sym e) (rising_set n at ls c.self.invariant.rising);
      below = subst (AreBelow c.self.inside.next) (sym e) (below_set c.self.inside.next n at ls c.self.invariant.below);
      apart = subst AreApart (sym e) (apart_set n at ls c.self.invariant.apart);
      found = λ kind o. c.self.invariant.found kind o ∙ sym (number_set kind o n at ls) ∙ ap (number_of kind o) (sym e);
    }
